-- `numbering::link_at` meets its contract: the lesser of two places is one of the links.
use Rattle.protocol.specs.Record.{link_at}
use Rattle.limits.specs.Limits.{most_links}
use native.Mathlib.Omega.{arith}
use mathlib.Core.Path.{◌≡◌, ap}
use Prim.Native.Nat.{ℕ, ◌<◌, ◌-◌, min}
use Rattle.numbering.proofs.link_at.Goals as goal

-- the place is that of the link of that number, or the last
place : (c : goal.After-least-at) → c.least-at.result ≡ min (c.args.number - 1) (most_links - 1)
place c = omega (arith, c.least-at.ensures, c.between.ensures)

here : (c : goal.After-least-at) → c.least-at.result < most_links
here c = omega (arith, place c)

pub offset_bounds-base-at : goal.offset_bounds-base-at
offset_bounds-base-at c = omega (arith, here c)

pub bounds-base-at : goal.bounds-base-at
bounds-base-at c = here c

pub returns : goal.returns
unfolding link_at
returns c = let place : c.least-at.result ≡ min (c.args.number - 1) (most_links - 1) =
    omega (arith, c.least-at.ensures, c.between.ensures) in
    ap (λ (k : ℕ). link_at c.args.base k) place

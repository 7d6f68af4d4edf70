-- `settling::running_with` meets its contract.
use Rattle.settling.specs.Settling.{within_links}
use Rattle.settling.specs.Settling.Places.{within_links_lem}
use Rattle.protocol.specs.Steps.{with_link, with_state}
use Rattle.protocol.specs.Steps.Cases.{begun}
use Rattle.limits.specs.Limits.{most_links}
use native.Mathlib.Omega.{arith}
use mathlib.Core.Path.{sym, ap, subst}
use Prim.Native.Nat.{ℕ, ◌<◌}
use Rattle.settling.proofs.running_with.Goals as goal

-- the place is one of the links
here : (c : goal.After-least-at) → c.least-at.result < most_links
unfolding within_links
here c = subst (λ (k : ℕ). k < most_links) (sym c.least-at.ensures) (within_links_lem c.args.i)

pub offset_bounds-next-at : goal.offset_bounds-next-at
offset_bounds-next-at c = omega (arith, here c)

pub bounds-next-at : goal.bounds-next-at
bounds-next-at c = here c

pub returns : goal.returns
unfolding with_link with_state within_links
returns c = let a = c.args in ap (λ (k : ℕ). with_link (begun a.base) k a.link) c.least-at.ensures

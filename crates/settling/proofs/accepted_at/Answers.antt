-- `settling::accepted_at` meets its contract: whether the first identifier is certified is what `certifies` says.
use Rattle.settling.specs.Settling.{accepted_at, within_links}
use Rattle.accepting.specs.Accepting.{accepted_on}
use Rattle.protocol.specs.Record.{link_at}
use mathlib.Core.Bool.{Bool}
use Rattle.settling.specs.Settling.Places.{within_links_lem}
use Rattle.limits.specs.Limits.{most_links}
use native.Mathlib.Omega.{arith}
use mathlib.Core.Path.{sym, ap, ◌∙◌, subst}
use Prim.Native.Nat.{ℕ, ◌<◌}
use Rattle.settling.proofs.accepted_at.Goals as goal

-- the place is one of the links
here : (c : goal.After-least-at) → c.least-at.result < most_links
unfolding within_links
here c = subst (λ (k : ℕ). k < most_links) (sym c.least-at.ensures) (within_links_lem c.args.i)

pub offset_bounds-base-at : goal.offset_bounds-base-at
offset_bounds-base-at c = omega (arith, here c)

pub bounds-base-at : goal.bounds-base-at
bounds-base-at c = here c

pub returns : goal.returns
unfolding accepted_at link_at within_links
returns c = let a = c.args in
    c.accept.ensures
    ∙ ap (λ (t : Bool). accepted_on a.base.n t (link_at a.base c.least-at.result) a.kind a.ids) c.certifies.ensures
    ∙ ap (λ (k : ℕ). accepted_at a.base k a.kind a.ids) c.least-at.ensures

-- `waiting::waiting_from` meets its contract: the sum over the receivers passed.
use Prim.Native.Nat.{◌-◌, ◌<◌}
use mathlib.Core.Path.{◌≡◌, refl, ◌∙◌}
use native.Mathlib.Omega.{arith}
use Rattle.limits.specs.Limits.{most_bases}
use Rattle.counting.specs.Sums.{sum}
use Rattle.net.specs.Abstraction.{faulty_of, size}
use Rattle.waiting.specs.Waits.Laws.{pair_turn}
use Rattle.waiting.proofs.waiting_from.Goals as goal

pub loop-b-init : goal.loop-b-init
unfolding size
loop-b-init c = (
  omega arith,
  c.least-n.ensures,
  omega (arith, c.least-n.ensures),
  omega arith,
  (unfold sum in refl),
)

pub loop-b-preserved : goal.loop-b-preserved
unfolding faulty_of
loop-b-preserved c = let here : c.loop-b.b < most_bases = omega (arith, c.loop-b.invariant.2, c.loop-b-test.true) in
    let I = c.loop-b.invariant in
    let E = c.waiting_between-total.ensures in (
      omega arith,
      I.1,
      I.2,
      omega (arith, I.3, E.1),
      pair_turn _ _ _ _ c.requires here I.4 E.0,
    )

pub returns : goal.returns
returns c =
    let I = c.loop-b.invariant in
    let e : c.loop-b.b ≡ size c.args.net = omega
    (arith, I.0, I.1, c.loop-b-test.false) in
    (I.4 ∙ rw e, omega (arith, I.0, I.2, I.3))

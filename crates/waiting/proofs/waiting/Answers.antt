-- `waiting::waiting` meets its contract: the sum over the senders passed.
use Prim.Native.Nat.{◌-◌}
use mathlib.Core.Path.{◌≡◌, refl, ◌∙◌}
use native.Mathlib.Omega.{arith}
use Rattle.counting.specs.Sums.{sum}
use Rattle.protocol.specs.Net as Nets
use Rattle.net.specs.Abstraction.{size}
use Rattle.waiting.specs.Waits.Laws.{base_turn}
use Rattle.waiting.proofs.waiting.Goals as goal

pub loop-a-init : goal.loop-a-init
unfolding size
loop-a-init c = (omega arith, c.least-n.ensures, omega (arith, c.least-n.ensures), omega arith, (unfold sum in refl))

pub loop-a-preserved : goal.loop-a-preserved
loop-a-preserved c =
    let I = c.loop-a.invariant in
    let E = c.waiting_from-total.ensures in
    (omega arith, I.1, I.2, omega (arith, I.3, E.1), base_turn _ _ _ _ I.4 E.0)

pub returns : goal.returns
unfolding Nets.waiting
returns c =
    let I = c.loop-a.invariant in
    let e : c.loop-a.a ≡ size c.args.net = omega (arith, I.0, I.1, c.loop-a-test.false) in
    I.4 ∙ rw e

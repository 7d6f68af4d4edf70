-- `keeping::frame_of` meets its contract: the bytes copied so far stand at the front, zeros behind them.
use Prim.Native.Nat.{◌-◌}
use mathlib.Core.Path.{◌≡◌, refl}
use native.Mathlib.Omega.{arith}
use lib.ListN.{length, take, drop, length-drop}
use lib.Seq.{length-take-le}
use Rattle.lists.specs.Lists.{pad_to}
use Rattle.node.specs.Node.{stored_frame}
use Rattle.keeping.specs.Keeping.Laws.{copied}
use Rattle.keeping.proofs.frame_of.Goals as goal

pub loop-i-init : goal.loop-i-init
loop-i-init c = (omega arith, (unfold pad_to in refl))

pub loop-i-preserved : goal.loop-i-preserved
loop-i-preserved c =
    let inv = c.loop-i.invariant in
    let P = c.requires in
    (omega arith, rw inv.1 (copied _ _ _ _ c.loop-i-test.true P.0 P.1))

pub returns : goal.returns
unfolding stored_frame
returns c =
    let inv = c.loop-i.invariant in
    let a = c.args in
    let e : c.loop-i.i ≡ a.len = omega arith in
    let l : length (take a.len (drop a.from a.out.now)) ≡ a.len = length-take-le
    _ _ (simp length-drop (omega (arith, c.requires.1))) in
    rw (inv.1, e, l)

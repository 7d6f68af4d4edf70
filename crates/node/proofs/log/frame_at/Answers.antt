-- `node::log::frame_at` meets its contract: the frame at its place, if there are so many.
use Rattle.node.specs.Node.Log.{frame_there, frame_none}
use native.Mathlib.Omega.{arith}
use Prim.Native.Nat.{◌-◌}
use mathlib.Core.Path.{◌≡◌}
use Rattle.node.proofs.log.frame_at.Goals as goal
use Rattle.node.proofs.log.frame_at.Goals.{then-k-gt0, else-k-gt0}

pub returns-then-i-broadcasts : goal.returns-then-i-broadcasts
returns-then-i-broadcasts c = let index : c.if-k-gt0.i ≡ c.args.k - 1 =
    elim c.if-k-gt0.branch [ then-k-gt0 w ↦ omega arith | else-k-gt0 w ↦ omega arith ] in
    frame_there _ _ _ index
    (omega (arith, c.broadcasts.ensures.0, c.if-i-broadcasts.true))

pub returns : goal.returns
returns c = let index : c.if-k-gt0.i ≡ c.args.k - 1 = elim c.if-k-gt0.branch [ then-k-gt0 w ↦ omega arith | else-k-gt0 w ↦ omega arith ] in
    frame_none _ _ _ index (omega (arith, c.broadcasts.ensures.0, c.if-i-broadcasts.false))

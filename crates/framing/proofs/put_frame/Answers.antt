-- `framing::put_frame` meets its contract. Invariant: the output holds the body of the first i identifiers, and is as it was past them.
use Prim.Native.Nat.{◌-◌}
use mathlib.Core.Path.{refl}
use native.Mathlib.Omega.{arith}
use Rattle.frame.specs.Encoding.{body, over}
use Rattle.framing.proofs.Stores.{next_stored, frame_stored}
use Rattle.framing.proofs.put_frame.Goals as goal

pub loop-i-init : goal.loop-i-init
unfolding body over
loop-i-init c = (omega arith, (refl, refl))

pub loop-i-preserved : goal.loop-i-preserved
loop-i-preserved c =
    let s = c.args in (
      omega arith,
      (
        omega (arith, c.put_identifier.auto.out),
        next_stored s.ids.now s.out.now c.loop-i.out _ c.loop-i.i (omega arith) c.loop-i.invariant.1.1 c.put_identifier.ensures,
      ),
    )

pub shape_of-out : goal.shape_of-out
shape_of-out c = omega (arith, c.put_four.auto.out)

pub returns : goal.returns
returns c =
    let a = c.args in
    frame_stored a.kind a.size a.ids.now a.out.now c.loop-i.out _ c.loop-i.i c.requires.1.0 (omega arith) c.loop-i.invariant.1.1
    c.put_four.ensures

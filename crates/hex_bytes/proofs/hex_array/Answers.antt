-- `hex_bytes::hex_array` meets its contract. Invariant: the array holds the first i bytes.
use native.Mathlib.Omega.{arith}
use Prim.Native.Nat.{◌+◌, ◌*◌, ◌-◌, min}
use mathlib.Core.Path.{refl, sym, ap₂, ◌∙◌}
use Rattle.hex_bytes.specs.Array.Laws.{array_none, array_more, array_all}
use Rattle.hex_bytes.proofs.hex_array.Goals as goal

pub loop-i-init : goal.loop-i-init
loop-i-init c =
    let a = c.args in (
      omega arith,
      (c.least-end.ensures ∙ ap₂ min c.least.ensures c.pairs_from.ensures, array_none a.s.now a.at),
    )

pub loop-i-preserved : goal.loop-i-preserved
loop-i-preserved c =
    let a = c.args in
    let p = a.at + 2 * c.loop-i.i in (
      omega arith,
      (
        c.loop-i.invariant.1.0,
        array_more a.s.now a.at c.loop-i.i p (omega arith) refl (omega arith) c.loop-i.invariant.1.1 c.hex_pair.ensures,
      ),
    )

pub returns : goal.returns
returns c =
    c.loop-i.invariant.1.1 ∙ sym (array_all _ _ _ _ _ c.loop-i.invariant.1.0 c.loop-i.invariant.0 c.loop-i-test.false)

-- `decoding::id_array` meets its contract. Invariant: the array holds the first i identifiers of the body, zeros behind.
use Prim.Native.Nat.{ℕ, ◌-◌}
use mathlib.Core.List.{List}
use mathlib.Core.Path.{refl, ap, ◌∙◌}
use native.Mathlib.Omega.{arith}
use lib.ListN.{length, set}
use Rattle.decoding.specs.Decoding.Laws.{array_next, array_whole}
use Rattle.lists.specs.Lists.Laws.{length_pad}
use Rattle.frame.proofs.Reading.Laws.{length_identifiers}
use Rattle.lists.specs.Lists.{pad_to}
use Rattle.limits.specs.Limits.{most_bases}
use Rattle.frame.specs.Reading as spec
use Rattle.decoding.proofs.id_array.Goals as goal

pub loop-i-init : goal.loop-i-init
unfolding pad_to spec.identifiers
loop-i-init c = (omega arith, (omega arith, refl))

pub returns-then-body-i : goal.returns-then-body-i
returns-then-body-i c =
    let a = c.args in
    c.loop-i.invariant.1.1 ∙ array_whole c.loop-i.i a.body.now (omega arith)

pub bounds-ids-i : goal.bounds-ids-i
bounds-ids-i c = let b = c.args.body.now in
    omega (
      arith,
      ap length c.loop-i.invariant.1.1
          ∙ length_pad most_bases (spec.identifiers c.loop-i.i b) (omega (arith, length_identifiers c.loop-i.i b)),
    )

pub loop-i-preserved : goal.loop-i-preserved
loop-i-preserved c =
    let a' = c.args in
    let b = a'.body.now in (
      omega arith,
      (
        omega arith,
        ap (λ (a : List ℕ). set a c.loop-i.i c.identifier_at.result) c.loop-i.invariant.1.1
            ∙ rw c.identifier_at.ensures (array_next c.loop-i.i b (omega arith)),
      ),
    )

pub returns : goal.returns
returns c = c.loop-i.invariant.1.1 ∙ array_whole c.loop-i.i c.args.body.now (omega arith)

-- `state_text::put_list` meets its contract. Invariant: the first i identifiers are put, each within its room.
use native.Mathlib.Omega.{arith}
use Prim.Native.Nat.{◌-◌}
use mathlib.Core.Path.{refl, sym, ◌∙◌}
use mathlib.Core.List.{[], ◌∷◌}
use lib.ListN.{length, get_or}
use Rattle.lines.specs.Lines.{space}
use Rattle.print.specs.Decimal.{field_text}
use Rattle.print.specs.Decimal.Laws.{few_field}
use Rattle.print.specs.Put.Laws.{put_none, put_as, put_next, step}
use Rattle.schedule.specs.Report.{identifier_digits}
use Rattle.schedule.proofs.Report.Laws.{list_none, list_more, list_all}
use Rattle.state_text.proofs.put_list.Goals as goal

pub loop-i-init : goal.loop-i-init
loop-i-init c = (omega arith, (omega arith, (refl, put_as (sym (list_none c.args.ids.now)) (put_none _ _))))

pub overflow_cast-ids : goal.overflow_cast-ids
overflow_cast-ids c = omega (arith, c.shared_slice_known-in-loop-i-1.given c.loop-i.i)

pub loop-i-preserved : goal.loop-i-preserved
loop-i-preserved c =
    let v = get_or c.args.ids.now c.loop-i.i 0 in
    let few = few_field identifier_digits (space ∷ []) v (omega arith) (omega (arith, c.shared_slice_known-in-loop-i-1.given c.loop-i.i)) in
    let less = c.loop-i-test.true in
    let I = c.loop-i.invariant in
    let P = put_next (length (field_text (space ∷ []) v)) (field_text (space ∷ []) v) I.1.1.1
    (omega (arith, few, less, I.1.0, c.requires)) (c.put_field-end.ensures.value, c.put_field-end.ensures.out_after) in (
      omega (arith, less),
      (
        omega (arith, few, I.1.0, step (field_text (space ∷ []) v) I.1.1.1 P),
        (c.put_field-end.auto.out ∙ I.1.1.0, put_as (list_more _ _ less) P),
      ),
    )

pub shape_of-out : goal.shape_of-out
shape_of-out c = c.loop-i.invariant.1.1.0

pub returns : goal.returns
returns c = record { put = put_as (list_all _ _ c.loop-i-test.false) c.loop-i.invariant.1.1.1; upper_bound = omega arith }

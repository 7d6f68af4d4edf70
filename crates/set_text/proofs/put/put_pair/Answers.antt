-- `set_text::put::put_pair` meets its contract: two words with a number behind each, and the line feed.
use native.Mathlib.Omega.{arith}
use borrow.Author.Rules.{rules}
use Prim.Native.Nat.{ℕ, ◌^◌, ◌<◌}
use mathlib.Core.List.{[], ◌∷◌}
use lib.ListN.{length}
use Rattle.lines.specs.Lines.{space, faulty_word}
use Rattle.print.specs.Decimal.{field_text}
use Rattle.print.specs.Decimal.Laws.{few_field}
use Rattle.print.specs.Put.Laws.{put_fits, put_next, step}
use Rattle.schedule.specs.Report.{feed, number_digits}
use Rattle.set_text.specs.Text.{pair_line}
use Rattle.set_text.proofs.put.put_pair.Goals as goal

below_byte : (v : ℕ) → v < 2 ^ 8 → v < 10 ^ number_digits
below_byte v h = omega arith

pub returns : goal.returns
unfolding pair_line
returns c = let a = c.args in
    let t = field_text faulty_word a.pair.lower in
    let u = field_text (space ∷ []) a.pair.higher in
    let few = few_field number_digits faulty_word a.pair.lower (omega arith) (below_byte a.pair.lower (search rules)) in
    let most = few_field number_digits (space ∷ []) a.pair.higher (omega arith) (below_byte a.pair.higher (search rules)) in
    let A = put_fits (length t) (omega (arith, few, c.requires)) (c.put_field-first.ensures.value, c.put_field-first.ensures.out_after) in
    let B = put_next (length u) u A (omega (arith, few, most, c.requires, A.past)) (
      c.put_field-second.ensures.value,
      c.put_field-second.ensures.out_after,
    ) in
    let far = step u A B in
    let P = put_next (length feed) feed B (omega (arith, few, most, far, c.requires, A.past)) (
      c.put_text.ensures.value,
      c.put_text.ensures.out_after,
    ) in record { put = P; upper_bound = omega (arith, A.past, few, most, far, step feed B P) }

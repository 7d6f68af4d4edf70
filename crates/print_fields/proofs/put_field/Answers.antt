-- `print_fields::put_field` meets its contract: where both fit, the label and behind it the digits at the array's end.
use native.Mathlib.Omega.{arith}
use borrow.Author.Tests.{leb-true}
use Prim.Native.Nat.{ℕ, ◌+◌, ◌-◌, ◌≤◌}
use mathlib.Core.Bool.{true, false}
use mathlib.Core.List.{List}
use mathlib.Core.Path.{◌≡◌, sym, ap, ◌∙◌}
use lib.Dec.{leb}
use lib.ListN.{length, drop, take, length-append, length-drop}
use lib.Seq.{take_all}
use Rattle.print.specs.Decimal.{most_digits, decimal_text, field_text}
use Rattle.print.specs.Put.{text_end, text_output}
use Rattle.print.specs.Put.Laws.{put_fits, put_next, fits_put, not_put}
use Rattle.print_fields.proofs.put_field.Goals as goal

module _ (out label bytes : List ℕ) (at v start : ℕ)
    (e : (start ≤ most_digits) × ((length bytes ≡ most_digits) × (drop start bytes ≡ decimal_text v))) where
  -- the part that is lent is the whole end of the array
  text_is : take (most_digits - start) (drop start bytes) ≡ decimal_text v
  text_is = take_all (most_digits - start) (drop start bytes) (omega (arith, length-drop start bytes, e.1.0)) ∙ e.1.1

  fits_is : leb (at + (length label + (most_digits - start))) (length out) ≡ leb (at + length (field_text label v)) (length out)
  fits_is = ap (λ (k : ℕ). leb (at + k) (length out))
      (omega (arith, ap length e.1.1, length-drop start bytes, e.1.0, length-append label (decimal_text v)))

  no_field : leb (at + (length label + (most_digits - start))) (length out) ≡ false
      → (at ≡ text_end out at (field_text label v)) × (out ≡ text_output out at (field_text label v))
  no_field t = not_put _ out at (field_text label v) (sym fits_is ∙ t)

  field : {o₁ o₂ : List ℕ} {p q : ℕ} → leb (at + (length label + (most_digits - start))) (length out) ≡ true
      → (p ≡ text_end out at label) × (o₁ ≡ text_output out at label)
      → (q ≡ text_end o₁ p (take (most_digits - start) (drop start bytes)))
      × (o₂ ≡ text_output o₁ p (take (most_digits - start) (drop start bytes)))
      → (q ≡ text_end out at (field_text label v)) × (o₂ ≡ text_output out at (field_text label v))
  field {o₁} {o₂} {p} {q} t one two =
      let all = leb-true (at + length (field_text label v)) (length out) (sym fits_is ∙ t) in
      let more = length-append label (decimal_text v) in
      let A = put_fits (length label) (omega (arith, all, more)) one in
      fits_put _ (sym fits_is ∙ t) (put_next (length (decimal_text v)) (decimal_text v) A (omega (arith, all, more, A.past))
      (two.0 ∙ ap (text_end o₁ p) text_is, two.1 ∙ ap (text_output o₁ p) text_is))

pub returns-then-not-has_room : goal.returns-then-not-has_room
returns-then-not-has_room c = let both = let a = c.args in
    no_field a.out.now a.label.now _ a.at a.v _ c.decimal-digits.ensures
    (sym c.has_room.ensures ∙ c.if-not-has_room.true) in record { value = both.0; out_after = both.1 }

pub returns : goal.returns
returns c = let both = let a = c.args in
    field a.out.now a.label.now _ a.at a.v _ c.decimal-digits.ensures
    (sym c.has_room.ensures ∙ c.if-not-has_room.false) (c.put_text-end.ensures.value, c.put_text-end.ensures.out_after)
    (c.put_text.ensures.value, c.put_text.ensures.out_after) in record { value = both.0; out_after = both.1 }

-- The place of a message's body in its burst, as the reading answers it.
use Rattle.std.specs.Prelude.{ℕ, ◌+◌, ◌*◌, ◌-◌, ◌≤◌, ◌≡◌, List, [], drop, length, replicate}
use Rattle.std.proofs.Math.Path.{sym, ap}
use Rattle.std.proofs.Common.{◌∙◌, arith, eq-eqb, ne_eqb}
use Rattle.std.proofs.Math.ListN.{take}
use Rattle.limits.specs.Limits.{most_bases}
use Rattle.lists.specs.Choice.Laws.{choose_yes, choose_no}
use Rattle.lists.specs.Lists.{pad_to}
use Rattle.frame.specs.Reading.{kind_byte, count_byte, body_start, body_of, read_refusal, identifiers}
use Rattle.frame.specs.Reading.Laws.{Framed}
use Rattle.frame.proofs.Reading.Laws.{read_passed}
use Rattle.decoding.specs.Decoding.{id_array}
use Rattle.reader.specs.declared.Reading.{Reading}
use Rattle.reader.specs.declared.Reading.TheVariants.{Message, Refused}
use Rattle.reader.specs.Answers.{reading_of, stretch, stretch_start}
use Rattle.reader.specs.Answers.Laws.{reading_message, reading_refused}

unfoldable count_in : Reading → ℕ
count_in (Message kind count start) = count
count_in (Refused r) = 0

unfoldable start_in : Reading → ℕ
start_in (Message kind count start) = start
start_in (Refused r) = 0

module _ (n : ℕ) (s : List ℕ) (kind count start : ℕ) (e : reading_of n s ≡ Message kind count start) where
  passed : read_refusal n s ≡ 0
  passed = (reading_message n s kind count start e).0

  whole : reading_of n s ≡ Message (kind_byte s) (count_byte s) (body_start s)
  unfolding reading_of
  whole = choose_yes _ _ (eq-eqb (read_refusal n s) 0 passed)

  counted : count ≡ count_byte s
  unfolding count_in
  counted = sym (ap count_in e) ∙ ap count_in whole

  placed : start ≡ body_start s
  unfolding start_in
  placed = sym (ap start_in e) ∙ ap start_in whole

  framed : Framed s
  framed = read_passed n s passed

  pub body_inside : start + 4 * count ≤ length s
  unfolding body_start
  body_inside = omega (arith, counted, placed, framed)

  -- the bytes of its identifiers, from its start on
  pub body_there : take (4 * count) (drop start s) ≡ stretch n s
  unfolding stretch body_of
  body_there =
      ap (λ (j : ℕ). take (4 * j) (drop start s)) counted ∙ ap (λ (j : ℕ). take (4 * count_byte s) (drop j s)) placed
      ∙ sym (choose_yes _ _ (eq-eqb (read_refusal n s) 0 passed))

  -- those between its two ends
  pub body_between : take (start + 4 * count - start) (drop start s) ≡ stretch n s
  body_between = let k : start + 4 * count - start ≡ 4 * count = omega arith in ap (λ (j : ℕ). take j (drop start s)) k ∙ body_there

  pub start_there : start ≡ stretch_start n s
  unfolding stretch_start
  start_there = placed ∙ sym (choose_yes (body_start s) 0 (eq-eqb (read_refusal n s) 0 passed))

-- a refused burst has an empty stretch, and no identifiers
pub refused_stretch : (n : ℕ) (s : List ℕ) (r : ℕ) → reading_of n s ≡ Refused r → (stretch n s ≡ []) × (stretch_start n s ≡ 0)
unfolding stretch stretch_start
refused_stretch n s r e =
    let q = reading_refused n s r e in
    let no = ne_eqb (read_refusal n s) 0 (λ z. q.1 (sym q.0 ∙ z)) in
    (choose_no (body_of s) [] no, choose_no (body_start s) 0 no)

pub refused_none : (n : ℕ) (s : List ℕ) (r : ℕ) → reading_of n s ≡ Refused r → id_array (stretch n s) ≡ replicate most_bases 0
unfolding id_array identifiers pad_to
refused_none n s r e = ap id_array (refused_stretch n s r e).0

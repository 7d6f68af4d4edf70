-- What a reading says of its burst.
use Rattle.std.specs.Prelude.{ℕ, ◌≡◌, refl, ◌≢◌, List, eqb}
use Rattle.std.proofs.Common.{sym, ap, ◌∙◌, arith, eq-eqb, eqb-true}
use Rattle.std.proofs.lemmas.Bool.{eqb-false}
use Rattle.lists.specs.Choice.Laws.{choose_ind, choose_yes}
use Rattle.reader.specs.declared.Reading.{Reading}
use Rattle.reader.specs.declared.Reading.TheVariants.{Message, Refused}
use Rattle.frame.specs.Reading.{kind_byte, count_byte, body_start, read_refusal}
use Rattle.reader.specs.Answers.{reading_of, number_in, kind_in}

message_no_number : {kind count start r : ℕ} → Message kind count start ≡ Refused r → ⊥
message_no_number e = let z : ◌≡◌ {A = ℕ} 0 1 = cc in omega arith

-- ---- the reading
pub reading_number : (n : ℕ) (s : List ℕ) → number_in (reading_of n s) ≡ read_refusal n s
unfolding reading_of number_in
reading_number n s =
    choose_ind (λ (r : Reading). number_in r ≡ read_refusal n s) (eqb (read_refusal n s) 0) (λ e. sym (eqb-true (read_refusal n s) 0 e))
    (λ _. refl)

-- a message was not turned down, and its kind is the burst's
pub reading_message : (n : ℕ) (s : List ℕ) (kind count start : ℕ) → reading_of n s ≡ Message kind count start
    → (read_refusal n s ≡ 0) × (kind ≡ kind_byte s)
unfolding reading_of number_in kind_in
reading_message n s kind count start e =
    let p : read_refusal n s ≡ 0 = sym (reading_number n s) ∙ ap number_in e in
    (p, sym (ap kind_in e) ∙ ap kind_in (choose_yes _ _ (eq-eqb (read_refusal n s) 0 p)))

-- a number that is answered is not 0
pub reading_refused : (n : ℕ) (s : List ℕ) (r : ℕ) → reading_of n s ≡ Refused r → (read_refusal n s ≡ r) × (r ≢ 0)
unfolding reading_of number_in
reading_refused n s r e = (
  sym (reading_number n s) ∙ ap number_in e,
  choose_ind (λ (x : Reading). x ≡ Refused r → r ≢ 0) (eqb (read_refusal n s) 0) (λ _ q. absurd (message_no_number q))
      (λ f q z. eqb-false (read_refusal n s) 0 f (ap number_in q ∙ z)) e,
)

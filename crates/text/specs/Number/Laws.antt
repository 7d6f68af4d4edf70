-- Laws of numbers at a position: one digit at a time.
use Rattle.std.specs.Prelude.{ℕ, ◌+◌, ◌-◌, ◌≤◌, ◌<◌, ◌≡◌, refl, true, false, List, ◌∷◌, length, get_or, drop}
use Rattle.std.proofs.Common.{sym, ap, ◌∙◌, eq-eqb, ne_eqb, le-leb, le-ltb, lt-ltb, drop_of_length-le}
use Rattle.std.proofs.lemmas.Bool.{lt-leb}
use Rattle.lists.specs.Choice.{choose, and}
use Rattle.lists.specs.Choice.Laws.{choose_yes, choose_no, and_both, and_no}
use Rattle.text.specs.declared.number.Number.TheVariants.{Value, Bad}
use Rattle.text.specs.Rest.{drop_one}
use Rattle.text.specs.Number.{most_number, is_digit, with_digit, digits_from, number_from, number_at, closed}

pub digit : {b : ℕ} → 48 ≤ b → b ≤ 57 → is_digit b ≡ true
unfolding is_digit
digit l m = and_both (le-leb _ _ l) (le-leb _ _ m)

pub below_digits : {b : ℕ} → b < 48 → is_digit b ≡ false
unfolding is_digit and
below_digits h = rw (lt-leb _ _ h)

pub above_digits : {b : ℕ} → 57 < b → is_digit b ≡ false
unfolding is_digit
above_digits {b} h = ap (and _) (lt-leb _ _ h) ∙ and_no _

-- ---- the digits from a position on
pub digits_end : (s : List ℕ) (i v : ℕ) → length s ≤ i → digits_from (drop i s) v i ≡ Value v i
unfolding digits_from
digits_end s i v h = rw (drop_of_length-le s h)

pub digits_close : (s : List ℕ) (i v : ℕ) → i < length s → is_digit (get_or s i 0) ≡ false → digits_from (drop i s) v i ≡ Value v i
unfolding digits_from
digits_close s i v h e = ap (λ (l : List ℕ). digits_from l v i) (drop_one s i h) ∙ choose_no _ _ e

pub digits_over : (s : List ℕ) (i v w : ℕ) → i < length s → is_digit (get_or s i 0) ≡ true → w ≡ with_digit v (get_or s i 0)
    → most_number < w
    → digits_from (drop i s) v i ≡ Bad
unfolding digits_from
digits_over s i v w h e p more =
    ap (λ (l : List ℕ). digits_from l v i) (drop_one s i h) ∙ choose_yes _ _ e ∙ choose_yes _ _ (rw p at (lt-ltb _ _ more))

pub digits_more : (s : List ℕ) (i v w : ℕ) → i < length s → is_digit (get_or s i 0) ≡ true → w ≡ with_digit v (get_or s i 0)
    → w ≤ most_number
    → digits_from (drop i s) v i ≡ digits_from (drop (i + 1) s) w (i + 1)
unfolding digits_from
digits_more s i v w h e p most =
    ap (λ (l : List ℕ). digits_from l v i) (drop_one s i h) ∙ choose_yes _ _ e ∙ choose_no _ _ (rw p at (le-ltb _ _ most))
    ∙ ap (λ (x : ℕ). digits_from (drop (i + 1) s) x (i + 1)) (sym p)

-- ---- the number at a position
pub number_end : (s : List ℕ) (i : ℕ) → length s ≤ i → number_at s i ≡ Bad
unfolding number_at number_from
number_end s i h = rw (drop_of_length-le s h)

pub number_none : (s : List ℕ) (i : ℕ) → i < length s → is_digit (get_or s i 0) ≡ false → number_at s i ≡ Bad
unfolding number_at number_from
number_none s i h e = ap (λ (l : List ℕ). number_from l i) (drop_one s i h) ∙ choose_no _ _ e

pub number_zero : (s : List ℕ) (i : ℕ) → i < length s → get_or s i 0 ≡ 48 → number_at s i ≡ Value 0 (i + 1)
unfolding number_at number_from is_digit and
number_zero s i h e =
    ap (λ (l : List ℕ). number_from l i) (drop_one s i h) ∙ ap (λ (b : ℕ). number_from (b ∷ drop (i + 1) s) i) e ∙ (unfold choose in refl)

pub number_of_digits : (s : List ℕ) (i v : ℕ) → i < length s → is_digit (get_or s i 0) ≡ true → (get_or s i 0 ≡ 48 → ⊥)
    → v ≡ get_or s i 0 - 48
    → number_at s i ≡ digits_from (drop (i + 1) s) v (i + 1)
unfolding number_at number_from
number_of_digits s i v h e z p =
    ap (λ (l : List ℕ). number_from l i) (drop_one s i h) ∙ choose_yes _ _ e ∙ choose_no _ _ (ne_eqb (get_or s i 0) 48 z)
    ∙ ap (λ (x : ℕ). digits_from (drop (i + 1) s) x (i + 1)) (sym p)

-- ---- the byte that closes a field
pub closed_end : (s : List ℕ) (close v p : ℕ) → length s ≤ p → closed s close (Value v p) ≡ Bad
unfolding closed and
closed_end s close v p h = choose_no _ _ (rw (le-ltb _ _ h))

pub closed_here : (s : List ℕ) (close v p : ℕ) → p < length s → get_or s p 0 ≡ close → closed s close (Value v p) ≡ Value v (p + 1)
unfolding closed
closed_here s close v p h e = choose_yes _ _ (and_both (lt-ltb _ _ h) (eq-eqb _ _ e))

pub closed_other : (s : List ℕ) (close v p : ℕ) → (get_or s p 0 ≡ close → ⊥) → closed s close (Value v p) ≡ Bad
unfolding closed
closed_other s close v p e = choose_no _ _ (ap (and _) (ne_eqb _ _ e) ∙ and_no _)

-- Laws of bytes in hexadecimal: one turn of the walk over the pairs.
use Rattle.std.specs.Prelude.{ℕ, zero, suc, ◌+◌, ◌≤◌, ◌<◌, ◌≡◌, true, false, List, [], ◌∷◌, length, get_or, drop}
use Rattle.std.proofs.Common.{ap, ◌∙◌, arith, eq-eqb, ne_eqb, drop_of_length-le, get_or-drop}
use Rattle.std.proofs.Math.ListN.{get_or-eq_default}
use Rattle.lists.specs.Choice.{and, or}
use Rattle.lists.specs.Choice.Laws.{choose_yes, choose_no, and_true}
use Rattle.hexadecimal.specs.declared.Hex.TheVariants.{Bytes, Bad}
use Rattle.text.specs.Rest.{drop_one}
use Rattle.hexadecimal.specs.Hex.{is_hex, hex_from}

drop_two : (s : List ℕ) (i : ℕ) → i + 1 < length s → drop i s ≡ get_or s i 0 ∷ (get_or s (i + 1) 0 ∷ drop (i + 2) s)
drop_two s i h =
    let e : i + 1 + 1 ≡ i + 2 = omega arith in
    drop_one s i (omega arith) ∙ ap (λ (l : List ℕ). get_or s i 0 ∷ l) (drop_one s (i + 1) h
    ∙ ap (λ (k : ℕ). get_or s (i + 1) 0 ∷ drop k s) e)

-- ---- the walk over the pairs
pub hex_at_end : (s : List ℕ) (i k : ℕ) → length s ≤ i → hex_from (drop i s) k i ≡ Bad
unfolding hex_from
hex_at_end s i k h = rw (drop_of_length-le s h)

feed_ends : (a : ℕ) (rest : List ℕ) (k p : ℕ) → a ≡ 10 → hex_from (a ∷ rest) k p ≡ Bytes k (p + 1)
unfolding hex_from
feed_ends a [] k p e = choose_yes _ _ (eq-eqb a 10 e)
feed_ends a (b ∷ rest) k p e = choose_yes _ _ (eq-eqb a 10 e)

pub from_feed : (s : List ℕ) (i k : ℕ) → i < length s → get_or s i 0 ≡ 10 → hex_from (drop i s) k i ≡ Bytes k (i + 1)
from_feed s i k h e = ap (λ (l : List ℕ). hex_from l k i) (drop_one s i h) ∙ feed_ends (get_or s i 0) (drop (i + 1) s) k i e

-- what stands behind the end is no digit
digit_inside : (s : List ℕ) (i : ℕ) → is_hex (get_or s i 0) ≡ true → i < length s
unfolding is_hex and or
digit_inside [] i e = absurd (let z : ◌≡◌ {A = ℕ} 0 1 = cc in omega arith)
digit_inside (a ∷ s) zero e = omega arith
digit_inside (a ∷ s) (suc i) e = omega (arith, digit_inside s i e)

pub pair_inside : (s : List ℕ) (i : ℕ) → and (is_hex (get_or s i 0)) (is_hex (get_or s (i + 1) 0)) ≡ true → i + 1 < length s
pair_inside s i a = digit_inside s (i + 1) (and_true _ _ a).1

pub end_no_digit : (s : List ℕ) (i : ℕ) → length s ≤ i + 1 → is_hex (get_or s (i + 1) 0) ≡ false
unfolding is_hex and or
end_no_digit s i h = ap is_hex (get_or-eq_default s 0 h)

pub from_pair : (s : List ℕ) (i k : ℕ) → i < length s → (get_or s i 0 ≡ 10 → ⊥)
    → and (is_hex (get_or s i 0)) (is_hex (get_or s (i + 1) 0)) ≡ true
    → hex_from (drop i s) k i ≡ hex_from (drop (i + 2) s) (k + 1) (i + 2)
unfolding hex_from
from_pair s i k h e a =
    ap (λ (l : List ℕ). hex_from l k i) (drop_two s i (pair_inside s i a))
    ∙ choose_no _ _ (ne_eqb (get_or s i 0) 10 e) ∙ choose_yes _ _ a

no_pair_ends : (a : ℕ) (rest : List ℕ) (k p : ℕ) → (a ≡ 10 → ⊥) → and (is_hex a) (is_hex (get_or rest 0 0)) ≡ false
    → hex_from (a ∷ rest) k p ≡ Bad
unfolding hex_from
no_pair_ends a [] k p e q = choose_no _ _ (ne_eqb a 10 e)
no_pair_ends a (b ∷ rest) k p e q = choose_no _ _ (ne_eqb a 10 e) ∙ choose_no _ _ q

pub from_other : (s : List ℕ) (i k : ℕ) → i < length s → (get_or s i 0 ≡ 10 → ⊥)
    → and (is_hex (get_or s i 0)) (is_hex (get_or s (i + 1) 0)) ≡ false
    → hex_from (drop i s) k i ≡ Bad
from_other s i k h e a =
    let z : i + 1 + 0 ≡ i + 1 = omega arith in
    ap (λ (l : List ℕ). hex_from l k i) (drop_one s i h)
    ∙ no_pair_ends (get_or s i 0) (drop (i + 1) s) k i e
    (ap (λ (x : ℕ). and (is_hex (get_or s i 0)) (is_hex x)) (get_or-drop (i + 1) s 0 0 ∙ ap (λ (j : ℕ). get_or s j 0) z) ∙ a)

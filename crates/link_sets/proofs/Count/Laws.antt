-- The formula counts the sets. The sets of a list go by its first pair, with it and without it, and so does Pascal's triangle (`ways`);
-- that its entries are products divided is the law that a set of k + 1 is one of k and one pair more, in k + 1 ways.
use Rattle.std.specs.Prelude.{ℕ, zero, suc, ◌+◌, ◌*◌, ◌-◌, ◌/◌, ◌^◌, ◌<◌, ◌≤◌, ◌≡◌, List, [], ◌∷◌, length}
use Rattle.std.proofs.Math.Path.{refl}
use Rattle.std.proofs.Common.{sym, ap, ap₂, ◌∙◌, add-one, arith, length-append, pow_pos}
use Rattle.std.proofs.Math.Decide.{dec_lt}
use Rattle.std.proofs.Math.Nat.{div-eq_of_eq-mul_right}
use Rattle.link_sets.specs.Sets.{sets_of, sets_up_to}
use Rattle.link_sets.proofs.Sets.Laws.{sets_both}
use Rattle.link_sets.specs.Count.{choices, choices_below}

-- ---- Pascal's triangle
ways : ℕ → ℕ → ℕ
ways zero m = 1
ways (suc k) zero = 0
ways (suc k) (suc m) = ways k m + ways (suc k) m

sets_ways : {A : Type 0} (k : ℕ) (l : List A) → length (sets_of k l) ≡ ways k (length l)
unfolding ways
sets_ways zero l = unfold sets_of in refl
sets_ways (suc k) [] = unfold sets_of in refl
sets_ways (suc k) (p ∷ l) = sets_both k p l ∙ ap₂ ◌+◌ (sets_ways k l) (sets_ways (suc k) l)

ways_none : (k m : ℕ) → m < k → ways k m ≡ 0
unfolding ways
ways_none zero m h = absurd (omega arith)
ways_none (suc k) zero h = refl
ways_none (suc k) (suc m) h = omega (arith, ways_none k m (omega arith), ways_none (suc k) m (omega arith))

more_left : (k r a b c : ℕ) → suc k * b ≡ a * suc r → suc (suc k) * c ≡ b * r → suc (suc k) * (b + c) ≡ (a + b) * suc r
more_left k r a b c e f = omega arith

-- a set of k + 1, and which of its pairs comes last: a set of k, and one of the m − k that are left
ways_more : (k m : ℕ) → suc k * ways (suc k) m ≡ ways k m * (m - k)
unfolding ways
ways_more zero zero = refl
ways_more zero (suc m) = omega (arith, ways_more zero m)
ways_more (suc k) zero = omega arith
ways_more (suc k) (suc m) = elim (dec_lt k m) [
  | yes h ↦ some (m - suc k) (omega arith) (omega arith) (ways_more k m) (ways_more (suc k) m)
  | no h ↦ none (ways_none (suc k) m (omega arith)) (ways_none (suc (suc k)) m (omega arith)) (omega arith)
]
  where
    some : (r : ℕ) → m - k ≡ suc r → suc m - suc k ≡ suc r → suc k * ways (suc k) m ≡ ways k m * (m - k)
        → suc (suc k) * ways (suc (suc k)) m ≡ ways (suc k) m * (m - suc k)
        → suc (suc k) * (ways (suc k) m + ways (suc (suc k)) m) ≡ (ways k m + ways (suc k) m) * (suc m - suc k)
    some r d e f g =
        let last : m - suc k ≡ r = omega arith in
        rw e (more_left k r (ways k m) (ways (suc k) m) (ways (suc (suc k)) m) (rw d at f) (rw last at g))

    none : ways (suc k) m ≡ 0 → ways (suc (suc k)) m ≡ 0 → suc m - suc k ≡ 0
        → suc (suc k) * (ways (suc k) m + ways (suc (suc k)) m) ≡ (ways k m + ways (suc k) m) * (suc m - suc k)
    none a b d = rw (a, b, d) (omega arith)

choices_ways : (m k : ℕ) → choices m k ≡ ways k m
unfolding choices
choices_ways m zero = unfold ways in refl
choices_ways m (suc k) = div-eq_of_eq-mul_right (omega arith) (ap (λ (c : ℕ). c * (m - k)) (choices_ways m k) ∙ sym (ways_more k m))

-- one factor and one divisor more
pub choices_next : (m k : ℕ) {c : ℕ} → c ≡ choices m k → c * (m - k) / (k + 1) ≡ choices m (k + 1)
unfolding choices
choices_next m k e = rw (e, add-one k)

pub below_more : (m k : ℕ) {c d : ℕ} → c ≡ choices_below m k → d ≡ choices m k → c + d ≡ choices_below m (k + 1)
unfolding choices_below
below_more m k e f = rw (e, f, add-one k)

pub choices_none : (m k : ℕ) → m < k → choices m k ≡ 0
choices_none m k h = choices_ways m k ∙ ways_none k m h

-- of all parts of m pairs some have k
ways_most : (k m : ℕ) → ways k m ≤ 2 ^ m
unfolding ways
ways_most zero m = pow_pos m
ways_most (suc k) zero = omega arith
ways_most (suc k) (suc m) = omega (arith, ways_most k m, ways_most (suc k) m)

pub choices_most : (m k : ℕ) → choices m k ≤ 2 ^ m
choices_most m k = omega (arith, choices_ways m k, ways_most k m)

-- more pairs, and more sizes, have as many sets or more
ways_more_pairs : (k m j : ℕ) → m ≤ j → ways k m ≤ ways k j
unfolding ways
ways_more_pairs zero m j h = omega arith
ways_more_pairs (suc k) m zero h = let e : m ≡ 0 = omega arith in omega (arith, ap (ways (suc k)) e)
ways_more_pairs (suc k) m (suc j) h = elim (dec_lt j m) [
  | yes y ↦ let e : m ≡ suc j = omega arith in omega (arith, ap (ways (suc k)) e)
  | no y ↦ omega (arith, ways_more_pairs (suc k) m j (omega arith))
]

choices_more_pairs : (m j k : ℕ) → m ≤ j → choices m k ≤ choices j k
choices_more_pairs m j k h = omega (arith, choices_ways m k, choices_ways j k, ways_more_pairs k m j h)

pub below_mono : (m j k i : ℕ) → m ≤ j → k ≤ i → choices_below m k ≤ choices_below j i
unfolding choices_below
below_mono m j zero i h g = omega arith
below_mono m j (suc k) zero h g = absurd (omega arith)
below_mono m j (suc k) (suc i) h g = elim (dec_lt k i) [
  | yes y ↦ omega (arith, below_mono m j (suc k) i h y)
  | no y ↦ same (omega arith) (below_mono m j k i h (omega arith))
]
  where
    same : k ≡ i → choices_below m k ≤ choices_below j i → choices_below m k + choices m k ≤ choices_below j i + choices j i
    same e less = omega (arith, choices_more_pairs m j k h, ap (choices j) e)

pub below_most : (m k : ℕ) → choices_below m k ≤ k * 2 ^ m
unfolding choices_below
below_most m zero = omega arith
below_most m (suc k) = omega (arith, below_most m k, choices_most m k)

-- ---- the sets of a list
pub sets_counted : {A : Type 0} (k : ℕ) (l : List A) → length (sets_of k l) ≡ choices (length l) k
sets_counted k l = sets_ways k l ∙ sym (choices_ways (length l) k)

pub below_counted : {A : Type 0} (t : ℕ) (l : List A) → length (sets_up_to t l) ≡ choices_below (length l) (suc t)
unfolding sets_up_to choices_below choices
below_counted zero l = sets_counted zero l
below_counted (suc t) l = simp length-append (omega (arith, below_counted t l, sets_counted (suc t) l))

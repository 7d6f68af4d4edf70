-- Tables over the pairs of 0 .. n - 1, such as "the link of x and y is faulty" (1, or 0): the degree of x is the sum of its row. Degrees
-- add up to twice the links, so all counts of the agreement argument are sums of degrees.
use Rattle.std.specs.Prelude.{ℕ, zero, suc, ◌+◌, ◌*◌, ◌≤◌, ◌<◌, ◌≡◌, refl, Bool, not, ◌≢◌}
use Rattle.std.proofs.Common.{sym, ◌∙◌}
use Rattle.std.proofs.Math.Bool.{true, false}
use Rattle.std.proofs.Math.Nat.{le_trans}
use native.Mathlib.Omega.{arith}
use Rattle.std.proofs.Math.Decide.{ℕ_discrete}
use borrow.Author.Tests.{eqb-true, eqb-false, not-true}
use Rattle.std.proofs.Math.Dec.{eqb}
use Rattle.lists.specs.Choice.{and, or}
use Rattle.counting.specs.Sums.{bit, sum, pairs}
use Rattle.counting.specs.Parts.{◌⊞◌, sum-⊞, only, only_there, sum_only}
use Rattle.counting.specs.Sums.Laws.{sum_swap, sum_same, sum_mono, sum_add, sum_cong, sum_zeros}
use Rattle.counting.specs.Sums.Bounds.{sum_none}
use Rattle.counting.specs.Counts.{count, bit_or, count_once, count_rest, count_below, TwoOf, counted_two}

abbrev pub degree : ℕ → (ℕ → ℕ → ℕ) → ℕ → ℕ
degree n F x = sum n (F x)

unfoldable pub total : ℕ → (ℕ → ℕ → ℕ) → ℕ
total n F = sum n (degree n F)

abbrev pub Symmetric : (ℕ → ℕ → ℕ) → Type 0
Symmetric F = (x y : ℕ) → F x y ≡ F y x

-- ---- totals
pub total_mono : (n : ℕ) (F G : ℕ → ℕ → ℕ) → ((x y : ℕ) → x < n → y < n → F x y ≤ G x y) → total n F ≤ total n G
unfolding total
total_mono n F G h = sum_mono n (degree n F) (degree n G) (λ x l. sum_mono n (F x) (G x) (λ y k. h x y l k))

pub total_add : (n : ℕ) (F G : ℕ → ℕ → ℕ) → total n (λ x y. F x y + G x y) ≡ total n F + total n G
unfolding total
total_add n F G = sum_cong n (λ x. sum n (λ y. F x y + G x y)) (λ x. sum n (F x) + sum n (G x)) (λ x l. sum_add n (F x) (G x))
    ∙ sum_add n (degree n F) (degree n G)

pub total_turned : (n : ℕ) (F : ℕ → ℕ → ℕ) → total n (λ x y. F y x) ≡ total n F
unfolding total
total_turned n F = sum_swap n n (λ x y. F y x)

pub total_none : (n : ℕ) → total n (λ x y. 0) ≡ 0
unfolding total
total_none n = sum_none n (λ x. sum n (λ y. 0)) (λ x l. sum_zeros n)

-- ---- the link of a and b, seen from x to y
unfoldable pub edge : ℕ → ℕ → ℕ → ℕ → Bool
edge a b x y = or (and (eqb a x) (eqb b y)) (and (eqb a y) (eqb b x))

-- one link adds two to the degrees, whatever names the members have
module _ (n : ℕ) (name : ℕ → ℕ) (apart : (x y : ℕ) → name x ≡ name y → x ≡ y) (a b : ℕ) where
  -- x is a, and y is b
  spot : ℕ → ℕ → ℕ
  spot x y = bit (and (eqb a (name x)) (eqb b (name y)))

  met_once : (c : ℕ) → sum n (λ x. bit (eqb c (name x))) ≤ 1
  unfolding count
  met_once c = count_once n (λ x. eqb c (name x)) (λ x y lx ly p q. apart x y (sym (eqb-true c (name x) p) ∙ eqb-true c (name y) q))

  spot_row : (x : ℕ) → degree n spot x ≤ bit (eqb a (name x))
  unfolding spot
  spot_row x = go (eqb a (name x))
    where
      go : (t : Bool) → sum n (λ y. bit (and t (eqb b (name y)))) ≤ bit t
      go true = unfold and bit in met_once b
      go false = unfold and bit in omega (arith, sum_zeros n)

  spot_total : total n spot ≤ 1
  unfolding total
  spot_total = le_trans (sum_mono n (degree n spot) (λ x. bit (eqb a (name x))) (λ x l. spot_row x)) (met_once a)

  pub edge_total : total n (λ x y. bit (edge a b (name x) (name y))) ≤ 2
  unfolding edge spot
  edge_total = omega (
    arith,
    total_mono n (λ x y. bit (edge a b (name x) (name y))) (λ x y. spot x y + spot y x)
        (λ x y lx ly. bit_or (and (eqb a (name x)) (eqb b (name y))) (and (eqb a (name y)) (eqb b (name x)))),
    total_add n spot (λ x y. spot y x),
    total_turned n spot,
    spot_total,
  )

-- ---- untouched members: those of degree 0
unfoldable pub untouched : ℕ → (ℕ → ℕ → ℕ) → ℕ → Bool
untouched n F x = eqb (degree n F x) 0

pub untouched_many : (n : ℕ) (F : ℕ → ℕ → ℕ) → n ≤ count n (untouched n F) + total n F
unfolding total untouched
untouched_many n F = omega (
  arith,
  count_rest n (λ x. eqb (degree n F x) 0),
  count_below n (λ x. not (eqb (degree n F x) 0)) (degree n F) (λ x l e. touched (degree n F x) e),
)
  where
    touched : (k : ℕ) → not (eqb k 0) ≡ true → 1 ≤ k
    touched k e = omega (arith, eqb-false k 0 (not-true (eqb k 0) e))

pub untouched_none : (n : ℕ) (F : ℕ → ℕ → ℕ) (x : ℕ) → untouched n F x ≡ true → degree n F x ≡ 0
unfolding untouched
untouched_none n F x e = eqb-true (degree n F x) 0 e

-- where the total is at least two below n
pub two_untouched : (n : ℕ) (F : ℕ → ℕ → ℕ) → total n F + 2 ≤ n → TwoOf n (untouched n F)
two_untouched n F h = counted_two n (untouched n F) (omega (arith, untouched_many n F))

-- ---- a symmetric table with an empty diagonal, summed over pairs and over rows
pub pairs_twice : (n : ℕ) (F : ℕ → ℕ → ℕ) → Symmetric F → ((x : ℕ) → F x x ≡ 0) → total n F ≡ 2 * pairs n F
unfolding total pairs sum
pairs_twice zero F same none = refl
pairs_twice (suc n) F same none =
    let r : sum n (λ x. sum n (F x)) ≡ 2 * sum n (λ i. sum i (λ j. F i j)) = pairs_twice n F same none in
    let q : sum n (λ x. F x n) ≡ sum n (F n) = sum_cong n (λ x. F x n) (F n) (λ x l. same x n) in
    omega (arith, none n, sum_add n (λ x. F x n) (λ x. sum n (F x)))

-- ---- two tables that leave nothing out but the row of P
pub rows_covered : (n : ℕ) (F v : ℕ → ℕ → ℕ) (P : ℕ) → P < n → ((x j : ℕ) → x < n → j < n → x ≢ P → 1 ≤ v x j + F x j)
    → n * n ≤ n + total n v + total n F
unfolding total
rows_covered n F v P P-in each =
    let r : sum n (λ x. n) ≤ sum n (degree n v ⊞ degree n F ⊞ only P (λ x. n)) = sum_mono n _ _ (λ x l. row_covered x l (ℕ_discrete P x)) in
    omega (arith, sum_same n n, simp (sum-⊞, sum_only n P (λ x. n) P-in) at r)
  where
    row_covered : (x : ℕ) → x < n → Dec (P ≡ x) → n ≤ (degree n v ⊞ degree n F ⊞ only P (λ x. n)) x
    row_covered x l (yes e) = unfold ◌⊞◌ in omega (arith, only_there P (λ x. n) x e)
    row_covered x l (no e) = unfold ◌⊞◌ in
        omega (arith, sum_same n 1, sum_mono n (λ j. 1) (λ j. v x j + F x j) (λ j k. each x j l k (λ p. e (sym p))), sum_add n (v x) (F x))

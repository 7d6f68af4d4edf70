-- How many of the numbers 0 .. k - 1 pass a test: lower bounds from members that are
-- known, upper bounds from what the members have in common.
use Rattle.std.specs.Prelude.{ℕ, zero, suc, ◌+◌, ◌≤◌, ◌<◌, ◌≡◌, refl, ◌≢◌, ◌⊎◌, Bool, true, not, eqb}
use Rattle.std.proofs.Common.{zero-le, sym, ap, ◌∙◌, inl, inr, eqb-true}
use Rattle.std.proofs.Math.Bool.{false}
use Rattle.std.proofs.Math.Nat.{le_refl}
use native.Mathlib.Omega.{arith}
use Rattle.lists.specs.Choice.{or}
use Rattle.counting.specs.Sums.Bounds.{sum_none}
use Rattle.counting.specs.Sums.{bit, sum}
use Rattle.counting.specs.Sums.Laws.{sum_mono, sum_add, sum_same, sum_cong, sum_term, sum_two}

unfoldable pub count : ℕ → (ℕ → Bool) → ℕ
count k p = sum k (λ x. bit (p x))

-- ---- one test
pub bit_yes : {t : Bool} → t ≡ true → bit t ≡ 1
unfolding bit
bit_yes e = rw e

pub bit_no : {t : Bool} → t ≡ false → bit t ≡ 0
unfolding bit
bit_no e = rw e

pub bit_implies : (t : Bool) (k : ℕ) → (t ≡ true → 1 ≤ k) → bit t ≤ k
unfolding bit
bit_implies true k h = h refl
bit_implies false k h = zero-le

pub bit_or : (p q : Bool) → bit (or p q) ≤ bit p + bit q
unfolding or bit
bit_or true q = omega arith
bit_or false q = omega arith

-- ---- from below
pub count_one : (k : ℕ) (p : ℕ → Bool) (a : ℕ) → a < k → p a ≡ true → 1 ≤ count k p
unfolding count
count_one k p a h e = omega (arith, sum_term k (λ x. bit (p x)) a h, bit_yes e)

pub count_two : (k : ℕ) (p : ℕ → Bool) (a b : ℕ) → a < k → b < k → a ≢ b → p a ≡ true → p b ≡ true → 2 ≤ count k p
unfolding count
count_two k p a b ha hb ne e f = omega (arith, sum_two k (λ x. bit (p x)) a b ha hb ne, bit_yes e, bit_yes f)

-- where each passes one of two tests
pub count_cover : (k : ℕ) (p q : ℕ → Bool) → ((x : ℕ) → x < k → (p x ≡ true) ⊎ (q x ≡ true)) → k ≤ count k p + count k q
unfolding count
count_cover k p q h = omega (
  arith,
  sum_same k 1,
  sum_mono k (λ x. 1) (λ x. bit (p x) + bit (q x)) (λ x l. one x (h x l)),
  sum_add k (λ x. bit (p x)) (λ x. bit (q x)),
)
  where
    one : (x : ℕ) → (p x ≡ true) ⊎ (q x ≡ true) → 1 ≤ bit (p x) + bit (q x)
    one x (inl e) = omega (arith, bit_yes e)
    one x (inr e) = omega (arith, bit_yes e)

pub count_rest : (k : ℕ) (p : ℕ → Bool) → k ≤ count k p + count k (λ x. not (p x))
count_rest k p = count_cover k p (λ x. not (p x)) (λ x l. either (p x))
  where
    either : (t : Bool) → (t ≡ true) ⊎ (not t ≡ true)
    either true = inl refl
    either false = inr refl

-- ---- from above
pub count_fewer : (k : ℕ) (p q : ℕ → Bool) → ((x : ℕ) → x < k → p x ≡ true → q x ≡ true) → count k p ≤ count k q
unfolding count
count_fewer k p q h =
    sum_mono k (λ x. bit (p x)) (λ x. bit (q x)) (λ x l. bit_implies (p x) (bit (q x)) (λ e. omega (arith, bit_yes (h x l e))))

pub count_same : (k : ℕ) (p q : ℕ → Bool) → ((x : ℕ) → x < k → p x ≡ q x) → count k p ≡ count k q
unfolding count
count_same k p q h = sum_cong k (λ x. bit (p x)) (λ x. bit (q x)) (λ x l. ap bit (h x l))

pub count_or : (k : ℕ) (p q : ℕ → Bool) → count k (λ x. or (p x) (q x)) ≤ count k p + count k q
unfolding count
count_or k p q = omega (
  arith,
  sum_mono k (λ x. bit (or (p x) (q x))) (λ x. bit (p x) + bit (q x)) (λ x l. bit_or (p x) (q x)),
  sum_add k (λ x. bit (p x)) (λ x. bit (q x)),
)

-- each that passes adds one to a sum of other numbers
pub count_below : (k : ℕ) (p : ℕ → Bool) (f : ℕ → ℕ) → ((x : ℕ) → x < k → p x ≡ true → 1 ≤ f x) → count k p ≤ sum k f
unfolding count
count_below k p f h = sum_mono k (λ x. bit (p x)) f (λ x l. bit_implies (p x) (f x) (h x l))

pub count_none : (k : ℕ) (p : ℕ → Bool) → ((x : ℕ) → x < k → p x ≡ false) → count k p ≡ 0
unfolding count
count_none k p h = sum_none k (λ x. bit (p x)) (λ x l. bit_no (h x l))

-- no two pass
pub count_once : (k : ℕ) (p : ℕ → Bool) → ((x y : ℕ) → x < k → y < k → p x ≡ true → p y ≡ true → x ≡ y) → count k p ≤ 1
unfolding count sum
count_once zero p h = zero-le
count_once (suc k) p h = go (p k) refl (count_once k p (λ x y lx ly. h x y (omega arith) (omega arith)))
  where
    others : (t : Bool) → p k ≡ true → (x : ℕ) → x < k → p x ≡ t → t ≡ false
    others true e x l f = let q = h x k (omega arith) (le_refl (suc k)) f e in absurd (omega arith)
    others false e x l f = refl

    go : (t : Bool) → p k ≡ t → sum k (λ x. bit (p x)) ≤ 1 → bit t + sum k (λ x. bit (p x)) ≤ 1
    go true e r = unfold bit in omega (arith, count_none k p (λ x l. others (p x) e x l refl))
    go false e r = unfold bit in omega arith

pub count_equal : (k a : ℕ) → count k (eqb a) ≤ 1
count_equal k a = count_once k (eqb a) (λ x y lx ly p q. sym (eqb-true a x p) ∙ eqb-true a y q)

-- ---- who passes
pub counted : (k : ℕ) (p : ℕ → Bool) → 1 ≤ count k p → (a : ℕ) × (a < k) × (p a ≡ true)
unfolding count sum
counted zero p h = absurd (omega arith)
counted (suc k) p h = go (p k) refl h (λ r. counted k p r)
  where
    go : (t : Bool) → p k ≡ t → 1 ≤ bit t + sum k (λ x. bit (p x)) → (1 ≤ sum k (λ x. bit (p x)) → (a : ℕ) × (a < k) × (p a ≡ true))
        → (a : ℕ) × (a < suc k) × (p a ≡ true)
    go true e r ih = (k, le_refl (suc k), e)
    go false e r ih = let w = ih (unfold bit in omega arith) in (w.0, omega arith, w.2)

pub record TwoOf (k : ℕ) (p : ℕ → Bool) : Type 0 where
  pub one : ℕ
  pub other : ℕ
  pub one_below : one < k
  pub other_below : other < k
  pub apart : one ≢ other
  pub one_passes : p one ≡ true
  pub other_passes : p other ≡ true

pub counted_two : (k : ℕ) (p : ℕ → Bool) → 2 ≤ count k p → TwoOf k p
unfolding count sum
counted_two zero p h = absurd (omega arith)
counted_two (suc k) p h = go (p k) refl h (λ r. counted_two k p r)
  where
    go : (t : Bool) → p k ≡ t → 2 ≤ bit t + sum k (λ x. bit (p x)) → (2 ≤ sum k (λ x. bit (p x)) → TwoOf k p) → TwoOf (suc k) p
    go true e r ih =
        let w = counted k p (unfold bit in omega arith) in
        record {
          one = k;
          other = w.0;
          one_below = le_refl (suc k);
          other_below = omega arith;
          apart = omega arith;
          one_passes = e;
          other_passes = w.2;
        }
    go false e r ih =
        let w = ih (unfold bit in omega arith) in
        record {
          one = w.one;
          other = w.other;
          one_below = omega arith;
          other_below = omega arith;
          apart = w.apart;
          one_passes = w.one_passes;
          other_passes = w.other_passes;
        }

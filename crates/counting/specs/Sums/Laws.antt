-- Laws of sums and tests: one step more, equal and larger terms, sums of sums, and single terms.
use Rattle.std.specs.Prelude.{ℕ, zero, suc, ◌+◌, ◌*◌, ◌≤◌, ◌<◌, ◌≡◌, refl, ◌≢◌, Bool, true, List, [], ◌∷◌}
use Rattle.std.proofs.Common.{sym, ap, ap₂, ◌∙◌, le_refl, zero-mul, suc-mul, add-one, arith}
use Rattle.std.proofs.Math.Decide.{ℕ_discrete}
use Rattle.lists.specs.Choice.Laws.{and_true}
use Rattle.lists.specs.Lists.{sum_over}
use Rattle.counting.specs.Sums.{sum, all}
use Rattle.counting.specs.Sums.Bounds.{sum_none}

-- ---- sums
pub sum_next : (k : ℕ) (f : ℕ → ℕ) → sum (k + 1) f ≡ f k + sum k f
unfolding sum
sum_next k f = rw add-one

pub sum_cong : (k : ℕ) (f g : ℕ → ℕ) → ((x : ℕ) → x < k → f x ≡ g x) → sum k f ≡ sum k g
unfolding sum
sum_cong zero f g h = refl
sum_cong (suc k) f g h = ap₂ ◌+◌ (h k (le_refl (suc k))) (sum_cong k f g (λ x l. h x (omega arith)))

pub sum_mono : (k : ℕ) (f g : ℕ → ℕ) → ((x : ℕ) → x < k → f x ≤ g x) → sum k f ≤ sum k g
unfolding sum
sum_mono zero f g h = le_refl 0
sum_mono (suc k) f g h = omega (arith, h k (le_refl (suc k)), sum_mono k f g (λ x l. h x (omega arith)))

pub sum_add : (k : ℕ) (f g : ℕ → ℕ) → sum k (λ x. f x + g x) ≡ sum k f + sum k g
unfolding sum
sum_add zero f g = refl
sum_add (suc k) f g = let r = sum_add k f g in omega arith

pub sum_same : (k c : ℕ) → sum k (λ x. c) ≡ k * c
unfolding sum
sum_same zero c = sym (zero-mul c)
sum_same (suc k) c = let r = sum_same k c in omega (arith, suc-mul k c)

pub sum_zeros : (k : ℕ) → sum k (λ x. 0) ≡ 0
sum_zeros k = sum_none k (λ x. 0) (λ x l. refl)

pub sum_swap : (k m : ℕ) (f : ℕ → ℕ → ℕ) → sum k (λ x. sum m (λ y. f x y)) ≡ sum m (λ y. sum k (λ x. f x y))
unfolding sum
sum_swap zero m f = sym (sum_zeros m)
sum_swap (suc k) m f = ap (λ s. sum m (λ y. f k y) + s) (sum_swap k m f) ∙ sym (sum_add m (λ y. f k y) (λ y. sum k (λ x. f x y)))

-- over a list, of sums over 0 .. k - 1
pub sum_over_swap : (l : List ℕ) (k : ℕ) (f : ℕ → ℕ → ℕ)
    → sum_over l (λ g. sum k (λ i. f g i)) ≡ sum k (λ i. sum_over l (λ g. f g i))
unfolding sum_over
sum_over_swap [] k f = sym (sum_zeros k)
sum_over_swap (x ∷ l) k f =
    ap (λ (s : ℕ). sum k (λ i. f x i) + s) (sum_over_swap l k f) ∙ sym (sum_add k (λ i. f x i) (λ i. sum_over l (λ g. f g i)))

-- one term is at most the sum, and so are two
pub sum_term : (k : ℕ) (f : ℕ → ℕ) (a : ℕ) → a < k → f a ≤ sum k f
unfolding sum
sum_term zero f a h = absurd (omega arith)
sum_term (suc k) f a h = elim (ℕ_discrete a k) [
  | yes e ↦ omega (arith, ap f e)
  | no e ↦ omega (arith, sum_term k f a (omega arith))
]

pub sum_two : (k : ℕ) (f : ℕ → ℕ) (a b : ℕ) → a < k → b < k → a ≢ b → f a + f b ≤ sum k f
unfolding sum
sum_two zero f a b ha hb ne = absurd (omega arith)
sum_two (suc k) f a b ha hb ne = go (ℕ_discrete a k) (ℕ_discrete b k) (λ p q. sum_two k f a b p q ne)
  where
    go : Dec (a ≡ k) → Dec (b ≡ k) → (a < k → b < k → f a + f b ≤ sum k f) → f a + f b ≤ f k + sum k f
    go (yes p) (yes q) ih = absurd (ne (p ∙ sym q))
    go (yes p) (no q) ih = omega (arith, ap f p, sum_term k f b (omega arith))
    go (no p) (yes q) ih = omega (arith, ap f q, sum_term k f a (omega arith))
    go (no p) (no q) ih = omega (arith, ih (omega arith) (omega arith))

-- ---- tests
pub all_at : (k : ℕ) (p : ℕ → Bool) → all k p ≡ true → (i : ℕ) → i < k → p i ≡ true
unfolding all
all_at zero p e i h = absurd (omega arith)
all_at (suc k) p e i h =
    let r = and_true (p k) (all k p) e in
    elim (ℕ_discrete i k) [ yes q ↦ rw q r.0 | no q ↦ all_at k p r.1 i (omega arith) ]

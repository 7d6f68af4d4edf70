-- Sums that are put together and cut down: the sum of two functions, and a function on a set
-- of numbers, zero off it. Both stay shut, so that a law finds its arguments under a sum.
use Rattle.std.specs.Prelude.{ℕ, zero, suc, ◌+◌, ◌≤◌, ◌<◌, ◌≡◌, ◌≢◌, Bool, true, false, eqb}
use Rattle.std.proofs.Common.{ap, arith, eq-eqb, ne_eqb}
use Rattle.std.proofs.Math.Decide.{ℕ_discrete}
use Rattle.lists.specs.Choice.{choose}
use Rattle.lists.specs.Choice.Laws.{choose_yes, choose_no}
use Rattle.counting.specs.Sums.Bounds.{sum_none}
use Rattle.counting.specs.Sums.{sum}
use Rattle.counting.specs.Sums.Laws.{sum_add, sum_same}

-- ---- two functions
infixl 60 ◌⊞◌
unfoldable pub ◌⊞◌ : (ℕ → ℕ) → (ℕ → ℕ) → ℕ → ℕ
(f ⊞ g) x = f x + g x

pub sum-⊞ : (k : ℕ) (f g : ℕ → ℕ) → sum k (f ⊞ g) ≡ sum k f + sum k g
unfolding ◌⊞◌
sum-⊞ k f g = sum_add k f g

unfoldable pub ones : ℕ → ℕ
ones x = 1

pub sum_ones : (k : ℕ) → sum k ones ≡ k
unfolding ones
sum_ones k = omega (arith, sum_same k 1)

-- ---- a function on a set
unfoldable pub within : (ℕ → Bool) → (ℕ → ℕ) → ℕ → ℕ
within S f x = choose (S x) (f x) 0

pub within_yes : (S : ℕ → Bool) (f : ℕ → ℕ) (x : ℕ) → S x ≡ true → within S f x ≡ f x
unfolding within
within_yes S f x e = choose_yes (f x) 0 e

pub within_no : (S : ℕ → Bool) (f : ℕ → ℕ) (x : ℕ) → S x ≡ false → within S f x ≡ 0
unfolding within
within_no S f x e = choose_no (f x) 0 e

-- ---- on a single number
abbrev pub only : ℕ → (ℕ → ℕ) → ℕ → ℕ
only a f = within (eqb a) f

pub only_there : (a : ℕ) (f : ℕ → ℕ) (x : ℕ) → a ≡ x → only a f x ≡ f x
only_there a f x e = within_yes (eqb a) f x (eq-eqb a x e)

pub only_elsewhere : (a : ℕ) (f : ℕ → ℕ) (x : ℕ) → a ≢ x → only a f x ≡ 0
only_elsewhere a f x e = within_no (eqb a) f x (ne_eqb a x e)

only_past : (k a : ℕ) (f : ℕ → ℕ) → k ≤ a → sum k (only a f) ≡ 0
only_past k a f h = sum_none k (only a f) (λ x l. only_elsewhere a f x (omega arith))

pub sum_only : (k a : ℕ) (f : ℕ → ℕ) → a < k → sum k (only a f) ≡ f a
unfolding sum
sum_only zero a f h = absurd (omega arith)
sum_only (suc k) a f h = elim (ℕ_discrete a k) [
  | yes e ↦ omega (arith, only_there a f k e, ap f e, only_past k a f (omega arith))
  | no e ↦ omega (arith, only_elsewhere a f k e, sum_only k a f (omega arith))
]

pub sum_only_one : (k a : ℕ) → a < k → sum k (only a ones) ≡ 1
unfolding ones
sum_only_one k a h = sum_only k a ones h

-- Sums and tests over the numbers 0 .. k - 1.
use Rattle.std.specs.Prelude.{ℕ, zero, suc, ◌+◌, Bool, true, false}
use Rattle.lists.specs.Choice.{and}
pub mod Laws
pub mod Loops
pub mod Bounds

unfoldable pub bit : Bool → ℕ
bit true = 1
bit false = 0

unfoldable pub sum : ℕ → (ℕ → ℕ) → ℕ
sum zero f = 0
sum (suc k) f = f k + sum k f

-- over the pairs i, j with j < i < k
unfoldable pub pairs : ℕ → (ℕ → ℕ → ℕ) → ℕ
pairs k f = sum k (λ i. sum i (λ j. f i j))

-- whether a test holds of each
unfoldable pub all : ℕ → (ℕ → Bool) → Bool
all zero p = true
all (suc k) p = and (p k) (all k p)

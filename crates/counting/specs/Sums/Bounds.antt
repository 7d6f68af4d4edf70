-- What holds at every place holds of the whole: a test, and a sum that has no term or one.
use Rattle.std.specs.Prelude.{ℕ, zero, suc, ◌≤◌, ◌<◌, ◌≡◌, refl, Bool, true, false}
use Rattle.std.proofs.Common.{ap, le_refl, arith}
use Rattle.std.proofs.Math.Decide.{ℕ_discrete}
use Rattle.lists.specs.Choice.Laws.{and_both}
use Rattle.counting.specs.Sums.{bit, sum, all}

pub bit_most : (t : Bool) → bit t ≤ 1
unfolding bit
bit_most true = omega arith
bit_most false = omega arith

pub all_each : (k : ℕ) (p : ℕ → Bool) → ((i : ℕ) → i < k → p i ≡ true) → all k p ≡ true
unfolding all
all_each zero p h = refl
all_each (suc k) p h = and_both (h k (le_refl (suc k))) (all_each k p (λ i l. h i (omega arith)))

pub sum_none : (k : ℕ) (f : ℕ → ℕ) → ((i : ℕ) → i < k → f i ≡ 0) → sum k f ≡ 0
unfolding sum
sum_none zero f h = refl
sum_none (suc k) f h = omega (arith, h k (le_refl (suc k)), sum_none k f (λ i l. h i (omega arith)))

-- one term of at most 1, and no other
pub sum_lone : (k : ℕ) (f : ℕ → ℕ) (i : ℕ) → f i ≤ 1 → ((j : ℕ) → j < k → (j ≡ i → ⊥) → f j ≡ 0) → sum k f ≤ 1
unfolding sum
sum_lone zero f i h none = omega arith
sum_lone (suc k) f i h none = elim (ℕ_discrete k i) [
  | yes e ↦ omega (arith, ap f e, h, sum_none k f (λ j l. none j (omega arith) (λ q. omega (arith, q, e))))
  | no e ↦ omega (arith, none k (le_refl (suc k)) e, sum_lone k f i h (λ j l. none j (omega arith)))
]

-- Bounded search: of the numbers 0 .. k - 1 each has one property, or one of them has
-- another. A proof by cases over all bases needs no axiom so.
use Rattle.std.specs.Prelude.{ℕ, zero, suc, ◌<◌, ◌≡◌, ◌≢◌, ◌⊎◌}
use Rattle.std.proofs.Common.{inl, inr, le_refl, arith}
use Rattle.std.proofs.Math.Decide.{ℕ_discrete}

pub each_or_one : (k : ℕ) (P Q : ℕ → Type 0) → ((x : ℕ) → x < k → P x ⊎ Q x) → ((x : ℕ) → x < k → P x) ⊎ ((x : ℕ) × (x < k) × Q x)
each_or_one zero P Q h = inl (λ x l. absurd (omega arith))
each_or_one (suc k) P Q h = step (each_or_one k P Q (λ x l. h x (omega arith))) (h k (le_refl (suc k)))
  where
    step : ((x : ℕ) → x < k → P x) ⊎ ((x : ℕ) × (x < k) × Q x) → P k ⊎ Q k → ((x : ℕ) → x < suc k → P x) ⊎ ((x : ℕ) × (x < suc k) × Q x)
    step (inr w) e = inr (w.0, omega arith, w.2)
    step (inl f) (inr q) = inr (k, le_refl (suc k), q)
    step (inl f) (inl p) = inl (λ x l. elim (ℕ_discrete x k) [ yes e ↦ rw e p | no e ↦ f x (omega arith) ])

-- a number is met among k others, or differs from each
pub met_or_not : (k : ℕ) (c : ℕ → ℕ) (g : ℕ) → ((j : ℕ) → j < k → c j ≢ g) ⊎ ((j : ℕ) × (j < k) × (c j ≡ g))
met_or_not k c g = each_or_one k (λ j. c j ≢ g) (λ j. c j ≡ g) (λ j l. case (ℕ_discrete (c j) g))
  where
    case : {a b : ℕ} → Dec (a ≡ b) → (a ≢ b) ⊎ (a ≡ b)
    case (yes e) = inr e
    case (no e) = inl e

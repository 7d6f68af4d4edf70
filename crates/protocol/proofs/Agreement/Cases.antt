-- The decisions by cases that the argument makes: on numbers, on tests and on a base's state.
use Rattle.std.specs.Prelude.{ℕ, zero, suc, ◌≤◌, ◌≡◌, refl, ◌⊎◌, Bool, true, false}
use Rattle.std.proofs.Common.{inl, inr, arith}
use Rattle.std.proofs.Math.Decide.{ℕ_discrete}

pub zero_or_more : (k : ℕ) → (k ≡ 0) ⊎ (1 ≤ k)
zero_or_more k = elim (ℕ_discrete k 0) [ yes e ↦ inl e | no e ↦ inr (omega arith) ]

pub true_or_false : (t : Bool) → (t ≡ true) ⊎ (t ≡ false)
true_or_false true = inl refl
true_or_false false = inr refl

-- 0 and 1 are different
pub impossible : {A : Type 0} → ◌≡◌ {A = ℕ} 0 1 → A
impossible e = absurd (omega arith)

-- ---- states: 0 idle, 1 running, 2 prime, 3 secondary
pub running_or_stopped : (s : ℕ) → (s ≤ 1) ⊎ (2 ≤ s)
running_or_stopped zero = inl (omega arith)
running_or_stopped (suc zero) = inl (omega arith)
running_or_stopped (suc (suc s)) = inr (omega arith)

pub prime_or_secondary : (s : ℕ) → 2 ≤ s → s ≤ 3 → (s ≡ 2) ⊎ (s ≡ 3)
prime_or_secondary s low high = elim (ℕ_discrete s 2) [ yes e ↦ inl e | no e ↦ inr (omega arith) ]

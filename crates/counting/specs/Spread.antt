-- Spread: outside a set S, the members with two faulty links or with a faulty link into S number at most half the total of the degrees.
-- Each such link into S is counted at both its ends, so every member that is counted stands for two.
use Prim.Native.Nat.{ℕ, ◌+◌, ◌*◌, ◌≤◌, ◌<◌}
use Rattle.std.specs.Prelude.{◌≡◌, ◌⊎◌, Bool}
use Rattle.std.proofs.Math.Path.{refl, sym}
use Rattle.std.proofs.Common.{◌∙◌, inl, inr}
use Rattle.std.proofs.Math.Bool.{true, false}
use native.Mathlib.Omega.{arith}
use Rattle.counting.specs.Sums.{bit, sum}
use Rattle.counting.specs.Sums.Laws.{sum_mono, sum_cong, sum_swap, sum_term}
use Rattle.counting.specs.Sums.Bounds.{sum_none}
use Rattle.counting.specs.Counts.{count, bit_yes, bit_no}
use Rattle.counting.specs.Parts.{◌⊞◌, sum-⊞, within, within_yes, within_no}
use Rattle.counting.specs.Degrees.{degree, total, Symmetric}

-- the links from x into the set S
unfoldable pub into : ℕ → (ℕ → ℕ → ℕ) → (ℕ → Bool) → ℕ → ℕ
into n F S x = sum n (within S (F x))

-- two faulty links, or one into S
abbrev pub TouchedBy : ℕ → (ℕ → ℕ → ℕ) → (ℕ → Bool) → ℕ → Type 0
TouchedBy n F S x = (2 ≤ degree n F x) ⊎ ((y : ℕ) × (y < n) × (S y ≡ true) × (1 ≤ F x y))

module _ (n : ℕ) (F : ℕ → ℕ → ℕ) (same : Symmetric F) (S : ℕ → Bool) where
  -- the links into S, from all members, are the degrees of S
  into_total : sum n (into n F S) ≡ sum n (within S (degree n F))
  unfolding into
  into_total = sum_swap n n (λ x. within S (F x))
      ∙ sum_cong n (λ y. sum n (λ x. within S (F x) y)) (within S (degree n F)) (λ y l. column y (S y) refl)
    where
      column : (y : ℕ) (t : Bool) → S y ≡ t → sum n (λ x. within S (F x) y) ≡ within S (degree n F) y
      column y true e = sum_cong n (λ x. within S (F x) y) (F y) (λ x l. within_yes S (F x) y e ∙ same x y)
          ∙ sym (within_yes S (degree n F) y e)
      column y false e = sum_none n (λ x. within S (F x) y) (λ x l. within_no S (F x) y e) ∙ sym (within_no S (degree n F) y e)

  -- a link into S also counts in the degree
  reached_twice : (x : ℕ) → TouchedBy n F S x → 2 ≤ degree n F x + into n F S x
  unfolding into
  reached_twice x (inl h) = omega arith
  reached_twice x (inr w) =
      omega (arith, w.3, sum_term n (F x) w.0 w.1, sum_term n (within S (F x)) w.0 w.1, within_yes S (F x) w.0 w.2)

  pub spread : (W : ℕ → Bool) → ((x : ℕ) → x < n → W x ≡ true → (S x ≡ false) × TouchedBy n F S x) → 2 * count n W ≤ total n F
  unfolding total count
  spread W each =
      let r : sum n (marks ⊞ marks ⊞ within S (degree n F)) ≤ sum n (degree n F ⊞ into n F S) =
      sum_mono n _ _ (λ x l. point x l (W x) (S x) refl refl) in
      omega (arith, into_total, simp sum-⊞ at r)
    where
      marks : ℕ → ℕ
      marks x = bit (W x)

      point : (x : ℕ) → x < n → (w s : Bool) → W x ≡ w → S x ≡ s → (marks ⊞ marks ⊞ within S (degree n F)) x ≤ (degree n F ⊞ into n F S) x
      point x l true s p q =
          unfold ◌⊞◌ in let h = each x l p in omega (arith, bit_yes p, within_no S (degree n F) x h.0, reached_twice x h.1)
      point x l false true p q = unfold ◌⊞◌ in omega (arith, bit_no p, within_yes S (degree n F) x q)
      point x l false false p q = unfold ◌⊞◌ in omega (arith, bit_no p, within_no S (degree n F) x q)

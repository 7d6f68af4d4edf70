-- Sums over 0 .. m that leave one number out: 0 .. m - 1 counts the others, as a base counts its links past itself.
use Rattle.std.specs.Prelude.{ℕ, zero, suc, ◌+◌, ◌≤◌, ◌<◌, ◌≡◌, ltb}
use Rattle.std.proofs.Math.Path.{sym}
use Rattle.std.proofs.Common.{ap, ◌∙◌, lt-ltb, le-ltb}
use Rattle.std.proofs.Math.Decide.{ℕ_discrete}
use native.Mathlib.Omega.{arith}
use Rattle.lists.specs.Choice.{choose}
use Rattle.lists.specs.Choice.Laws.{choose_yes, choose_no}
use Rattle.counting.specs.Sums.{sum, pairs}
use Rattle.counting.specs.Sums.Laws.{sum_cong, sum_add}
use Rattle.counting.specs.Degrees.{degree, total, Symmetric, pairs_twice}

-- the i-th number that is not b
unfoldable pub skip : ℕ → ℕ → ℕ
skip b i = choose (ltb i b) i (suc i)

pub skip_low : (b i : ℕ) → i < b → skip b i ≡ i
unfolding skip
skip_low b i h = choose_yes i (suc i) (lt-ltb i b h)

pub skip_high : (b i : ℕ) → b ≤ i → skip b i ≡ suc i
unfolding skip
skip_high b i h = choose_no i (suc i) (le-ltb i b h)

pub sum_skip : (m b : ℕ) (f : ℕ → ℕ) → b ≤ m → sum m (λ i. f (skip b i)) + f b ≡ sum (suc m) f
unfolding sum
sum_skip zero zero f h = omega arith
sum_skip zero (suc b) f h = absurd (omega arith)
sum_skip (suc m) b f h = elim (ℕ_discrete b (suc m)) [
  | yes e ↦ omega (
    arith,
    ap f e,
    ap f (skip_low b m (omega arith)),
    sum_cong m (λ i. f (skip b i)) f (λ i l. ap f (skip_low b i (omega arith))),
  )
  | no e ↦ (
      let r : sum m (λ i. f (skip b i)) + f b ≡ f m + sum m f = sum_skip m b f (omega arith) in
      omega (arith, ap f (skip_high b m (omega arith))))
]

-- the pairs without b, and the pairs with b, are all pairs
module _ (m b : ℕ) (F : ℕ → ℕ → ℕ) (same : Symmetric F) (none : (x : ℕ) → F x x ≡ 0) (b_in : b ≤ m) where
  without : ℕ → ℕ → ℕ
  without i j = F (skip b i) (skip b j)

  with_b : sum m (λ i. F (skip b i) b) ≡ degree (suc m) F b
  with_b = omega (arith, sum_skip m b (F b) b_in, none b, sum_cong m (λ i. F (skip b i) b) (λ i. F b (skip b i)) (λ i l. same (skip b i) b))

  rows : total m without + sum m (λ i. F (skip b i) b) ≡ sum m (λ i. degree (suc m) F (skip b i))
  unfolding without total
  rows = sym (sum_add m (λ i. sum m (λ j. F (skip b i) (skip b j))) (λ i. F (skip b i) b))
      ∙ sum_cong m (λ i. sum m (λ j. F (skip b i) (skip b j)) + F (skip b i) b) (λ i. degree (suc m) F (skip b i))
      (λ i l. sum_skip m b (F (skip b i)) b_in)

  pub pairs_skip : pairs m (λ i j. F (skip b i) (skip b j)) + sum m (λ i. F (skip b i) b) ≡ pairs (suc m) F
  unfolding without
  pairs_skip = omega (
    arith,
    rows,
    with_b,
    all_rows,
    pairs_twice m without (λ i j. same (skip b i) (skip b j)) (λ i. none (skip b i)),
    pairs_twice (suc m) F same none,
  )
    where
      all_rows : sum m (λ i. degree (suc m) F (skip b i)) + degree (suc m) F b ≡ total (suc m) F
      all_rows = unfold total in sum_skip m b (degree (suc m) F) b_in

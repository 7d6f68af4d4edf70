-- The pigeonhole principle: different numbers, each met among some places, are no more
-- than the places, and fewer where a place holds none of them.
use Rattle.std.specs.Prelude.{ℕ, ◌+◌, ◌≤◌, ◌<◌, ◌≡◌, ◌≢◌}
use Rattle.std.proofs.Math.Path.{sym, ap}
use Rattle.std.proofs.Common.{◌∙◌, inl, inr}
use Rattle.std.proofs.Math.Decide.{ℕ_discrete}
use native.Mathlib.Omega.{arith}
use borrow.Author.Tests.{eqb-true, eq-eqb, ne_eqb}
use Rattle.std.proofs.Math.Dec.{eqb}
use Rattle.counting.specs.Search.{met_or_not}
use Rattle.counting.specs.Sums.{bit, sum}
use Rattle.counting.specs.Sums.Laws.{sum_mono, sum_add, sum_swap, sum_same}
use Rattle.counting.specs.Counts.{count, count_one, count_once, count_none}
use Rattle.counting.specs.Parts.{ones, only, only_there, only_elsewhere, sum_only_one}

-- the first n values of c are different
abbrev pub Injective : ℕ → (ℕ → ℕ) → Type 0
Injective n c = (u v : ℕ) → u < n → v < n → c u ≡ c v → u ≡ v

-- g is one of the first n values of c
abbrev pub Met : ℕ → (ℕ → ℕ) → ℕ → Type 0
Met n c g = (j : ℕ) × (j < n) × (g ≡ c j)

module _ (n m : ℕ) (c d : ℕ → ℕ) (apart : Injective n c) (met : (u : ℕ) → u < n → Met m d (c u)) where
  -- how often a number is among the first n values of c
  uses : ℕ → ℕ
  uses g = count n (λ u. eqb (c u) g)

  uses_once : (g : ℕ) → uses g ≤ 1
  unfolding uses
  uses_once g = count_once n (λ u. eqb (c u) g) (λ u v lu lv p q. apart u v lu lv (eqb-true (c u) g p ∙ sym (eqb-true (c v) g q)))

  uses_none : (g : ℕ) → ((u : ℕ) → u < n → c u ≢ g) → uses g ≡ 0
  unfolding uses
  uses_none g h = count_none n (λ u. eqb (c u) g) (λ u l. ne_eqb (c u) g (h u l))

  -- each value is counted at some place
  uses_all : n ≤ sum m (λ j. uses (d j))
  unfolding uses count
  uses_all = omega (
    arith,
    sum_same n 1,
    sum_mono n (λ u. 1) (λ u. sum m (λ j. bit (eqb (c u) (d j)))) somewhere,
    sum_swap n m (λ u j. bit (eqb (c u) (d j))),
  )
    where
      somewhere : (u : ℕ) → u < n → 1 ≤ sum m (λ j. bit (eqb (c u) (d j)))
      somewhere u l = let w = met u l in count_one m (λ j. eqb (c u) (d j)) w.0 w.1 (eq-eqb (c u) (d w.0) w.2)

  pub pigeonhole : n ≤ m
  pigeonhole = omega (arith, uses_all, sum_same m 1, sum_mono m (λ j. uses (d j)) (λ j. 1) (λ j l. uses_once (d j)))

  pub pigeonhole_spare : (z : ℕ) → z < m → ((u : ℕ) → u < n → c u ≢ d z) → n < m
  pigeonhole_spare z z_in spare = omega (
    arith,
    uses_all,
    sum_only_one m z z_in,
    sum_add m (λ j. uses (d j)) (only z ones),
    sum_same m 1,
    sum_mono m (λ j. uses (d j) + only z ones j) (λ j. 1) (λ j l. point j (ℕ_discrete z j)),
  )
    where
      point : (j : ℕ) → Dec (z ≡ j) → uses (d j) + only z ones j ≤ 1
      point j (yes e) = unfold ones in omega (arith, only_there z ones j e, uses_none (d j) (λ u l p. spare u l (p ∙ ap d (sym e))))
      point j (no e) = omega (arith, only_elsewhere z ones j e, uses_once (d j))

-- n different values among n places: every place is met
pub pigeonhole_onto : (n : ℕ) (c d : ℕ → ℕ) → Injective n c → ((u : ℕ) → u < n → Met n d (c u)) → (z : ℕ) → z < n → Met n c (d z)
pigeonhole_onto n c d apart met z z_in = elim (met_or_not n c (d z)) [
  | inr w ↦ (w.0, w.1, sym w.2)
  | inl h ↦ absurd (let r = pigeonhole_spare n n c d apart met z z_in h in omega arith)
]

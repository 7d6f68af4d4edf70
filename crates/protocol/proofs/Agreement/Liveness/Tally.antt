-- The tally of the truth at a running base, once it misses only bases that are reached from a small set by faulty links: at least t + 1.
use Rattle.std.specs.Prelude.{ℕ, ◌<◌, ◌≡◌, ◌≢◌, ◌⊎◌, Bool, not, List, eqb}
use Rattle.std.proofs.Math.Path.{refl}
use Rattle.std.proofs.Common.{sym}
use Rattle.std.proofs.Math.Logic.{inl, inr}
use Rattle.std.proofs.Math.Bool.{true, false}
use native.Mathlib.Omega.{arith}
use borrow.Author.Tests.{eqb-false, not-true}
use Rattle.lists.specs.Choice.{and, or}
use Rattle.lists.specs.Choice.Laws.{and_true}
use Rattle.counting.specs.Counts.{count_cover, count_or, count_equal}
use Rattle.counting.specs.Spread.{TouchedBy, spread}
use Rattle.protocol.specs.Agreement.Views.{View, holds_of, tally_of}
use Rattle.protocol.specs.Agreement.Invariant.{Premises}

module _ (n t : ℕ) (faulty : ℕ → ℕ → ℕ) (id : ℕ → ℕ) (truth : List ℕ) (P : Premises n t faulty id truth) (b : View) (y : ℕ)
    (S : ℕ → Bool) where
  -- a base other than y from which y does not hold the truth
  misses : ℕ → Bool
  misses x = and (not (eqb y x)) (not (holds_of b truth x))

  held_or_missed : (x : ℕ) → (holds_of b truth x ≡ true) ⊎ (or (eqb y x) (misses x) ≡ true)
  unfolding misses
  held_or_missed x = go (holds_of b truth x) (eqb y x)
    where
      go : (h e : Bool) → (h ≡ true) ⊎ (or e (and (not e) (not h)) ≡ true)
      go true e = inl refl
      go false true = inr (unfold or in refl)
      go false false = inr (unfold or and in refl)

  pub tally_enough : ((x : ℕ) → x < n → x ≢ y → holds_of b truth x ≡ false → (S x ≡ false) × TouchedBy n faulty S x)
      → t < tally_of n b truth
  unfolding tally_of
  tally_enough reached = omega (
    arith,
    P.few_faulty,
    P.enough,
    spread n faulty P.symmetric S misses (λ x l h. missed x l h),
    count_cover n (holds_of b truth) (λ x. or (eqb y x) (misses x)) (λ x l. held_or_missed x),
    count_or n (eqb y) misses,
    count_equal n y,
  )
    where
      missed : (x : ℕ) → x < n → misses x ≡ true → (S x ≡ false) × TouchedBy n faulty S x
      missed x l h = unfold misses in let w = and_true (not (eqb y x)) (not (holds_of b truth x)) h in
          reached x l (λ e. eqb-false y x (not-true (eqb y x) w.0) (sym e)) (not-true (holds_of b truth x) w.1)

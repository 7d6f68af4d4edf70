-- A test of each of k places, made from the last to the first: the places from i on have passed, so that all pass exactly if those below
-- i do. The two loops over the links of a record go so.
use Prim.Native.Nat.{ℕ, ◌+◌, ◌-◌, ◌≤◌, ◌<◌}
use mathlib.Core.Path.{◌≡◌, refl, sym, ap, ◌∙◌}
use mathlib.Core.Bool.{Bool, true, false}
use native.Mathlib.Omega.{arith}
use Rattle.counting.specs.Sums.{all}
use Rattle.counting.specs.Sums.Loops.{all_broken, all_goes_on}

pub record PassedFrom (k : ℕ) (p : ℕ → Bool) (i : ℕ) : Type 0 where
  pub place : i ≤ k
  pub same : all k p ≡ all i p

module _ (k : ℕ) (p : ℕ → Bool) where
  pub passed_none : PassedFrom k p k
  passed_none = record { place = omega arith; same = refl }

  module _ {i : ℕ} (F : PassedFrom k p i) where
    -- one place more, the one before i
    here : 0 < i → all k p ≡ all (i - 1 + 1) p
    here h = let e : i ≡ i - 1 + 1 = omega arith in F.same ∙ ap (λ (j : ℕ). all j p) e

    pub passed_next : 0 < i → p (i - 1) ≡ true → PassedFrom k p (i - 1)
    passed_next h e = record { place = omega (arith, F.place); same = here h ∙ all_goes_on p (i - 1) e }

    pub passed_fails : 0 < i → p (i - 1) ≡ false → false ≡ all k p
    passed_fails h e = sym (here h ∙ all_broken p (i - 1) e)

    pub passed_all : i ≤ 0 → true ≡ all k p
    unfolding all
    passed_all h = let e : i ≡ 0 = omega arith in sym (F.same ∙ ap (λ (j : ℕ). all j p) e)

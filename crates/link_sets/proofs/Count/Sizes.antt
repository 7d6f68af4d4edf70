-- A number by its size: below it stand the sets of fewer pairs, and it is so many behind them.
use Rattle.std.specs.Prelude.{ℕ, zero, suc, ◌+◌, ◌-◌, ◌<◌, ◌≤◌, ◌≡◌, length}
use Rattle.std.proofs.Common.{sym, ◌∙◌, subst}
use Rattle.std.proofs.Math.Path.{ap}
use mathlib.Core.List.{List, [], ◌++◌}
use Rattle.std.proofs.Math.Decide.{dec_lt}
use native.Mathlib.Omega.{arith}
use Rattle.std.proofs.Math.ListN.{get_or, get_or-append}
use Rattle.std.proofs.Math.Seq.{get_or-append-add}
use Rattle.link_sets.specs.Sets.{sets_of, sets_up_to}
use Rattle.link_sets.specs.Count.{choices, choices_below}
use Rattle.link_sets.proofs.Count.Laws.{below_counted, below_mono}

-- ---- by the formula
pub below_next : (m j k : ℕ) → j < k → choices_below m j + choices m j ≤ choices_below m k
unfolding choices_below
below_next m j k h = below_mono m m (suc j) k (omega arith) h

pub record BySize (m t i : ℕ) : Type 0 where
  pub size : ℕ
  pub rest : ℕ
  pub few : size ≤ t
  pub is : i ≡ choices_below m size + rest
  pub less : rest < choices m size

pub size_found : (m t i : ℕ) → i < choices_below m (suc t) → BySize m t i
unfolding choices_below
size_found m zero i h = record { size = 0; rest = i; few = omega arith; is = omega arith; less = omega arith }
size_found m (suc t) i h = elim (dec_lt i (choices_below m (suc t))) [
  | yes y ↦ let S = size_found m t i y in record { size = S.size; rest = S.rest; few = omega (arith, S.few); is = S.is; less = S.less }
  | no y ↦ record { size = suc t; rest = i - choices_below m (suc t); few = omega arith; is = omega arith; less = omega arith }
]

-- ---- in the list of sets
module _ {A : Type 0} (l : List A) where
  -- the sets of a size that is not the last, and those of the last
  before_last : (t i : ℕ) → i < length (sets_up_to t l) → get_or (sets_up_to (suc t) l) i [] ≡ get_or (sets_up_to t l) i []
  unfolding sets_up_to
  before_last t i h = get_or-append (sets_up_to t l) (sets_of (suc t) l) [] i h

  at_last : (t r : ℕ) → get_or (sets_up_to (suc t) l) (choices_below (length l) (suc t) + r) [] ≡ get_or (sets_of (suc t) l) r []
  unfolding sets_up_to
  at_last t r =
      ap (λ (c : ℕ). get_or (sets_up_to t l ++ sets_of (suc t) l) (c + r) []) (sym (below_counted t l))
      ∙ get_or-append-add (sets_up_to t l) (sets_of (suc t) l) r []

  first_size : (r : ℕ) → get_or (sets_up_to 0 l) (choices_below (length l) 0 + r) [] ≡ get_or (sets_of 0 l) r []
  unfolding sets_up_to choices_below
  first_size r = let e : 0 + r ≡ r = omega arith in ap (λ (i : ℕ). get_or (sets_of 0 l) i []) e

  pub sized_at : (t k r : ℕ) → k ≤ t → r < choices (length l) k
      → get_or (sets_up_to t l) (choices_below (length l) k + r) [] ≡ get_or (sets_of k l) r []
  sized_at zero zero r few less = first_size r
  sized_at zero (suc k) r few less = absurd (omega arith)
  sized_at (suc t) k r few less = elim (dec_lt k (suc t)) [
    | yes y ↦ before_last t _ (omega (arith, below_next (length l) k (suc t) y, below_counted t l)) ∙ sized_at t k r (omega arith) less
    | no y ↦ subst (λ (j : ℕ). get_or (sets_up_to (suc t) l) (choices_below (length l) j + r) [] ≡ get_or (sets_of j l) r [])
        (omega arith) (at_last t r)
  ]

-- The net at rest: every base has stopped. At least two bases are untouched and so have stopped; every running base then holds two
-- Correct-Finals of the truth, has sent a Verify-Final, and passes the secondary check.
use Rattle.std.specs.Prelude.{ℕ, ◌≤◌, ◌<◌, ◌≡◌, refl, ◌≢◌, false, List, eqb}
use Rattle.std.proofs.Common.{sym, inl, inr, arith, eq-eqb, ne_eqb}
use Rattle.counting.specs.Sums.Laws.{sum_term}
use Rattle.counting.specs.Counts.{TwoOf}
use Rattle.counting.specs.Degrees.{untouched, untouched_none, two_untouched}
use Rattle.counting.specs.Spread.{TouchedBy}
use Rattle.lists.specs.Choice.Laws.{clash}
use Rattle.protocol.proofs.Agreement.Cases.{zero_or_more}
use Rattle.protocol.specs.Agreement.Views.{corrects, holds_of, Secondary}
use Rattle.protocol.specs.Agreement.Invariant.{Premises, State, Invariant}
use Rattle.protocol.proofs.Agreement.Liveness.Hears.{AtRest, running_or_not, hears_two, HeardFrom}
use Rattle.protocol.proofs.Agreement.Liveness.Hears.{tells_truth, twice_faulty, silent, tells}
use Rattle.protocol.proofs.Agreement.Liveness.Tally.{tally_enough}
use Rattle.protocol.proofs.Agreement.Liveness.Untouched.{untouched_stopped}
pub mod Hears
pub mod Tally
pub mod Untouched

module _ (n t : ℕ) (faulty : ℕ → ℕ → ℕ) (id : ℕ → ℕ) (truth : List ℕ) (P : Premises n t faulty id truth) (N : State)
    (I : Invariant n t faulty id truth N) (R : AtRest n faulty N) where
  clear : TwoOf n (untouched n faulty)
  clear = two_untouched n faulty (omega (arith, P.few_faulty, P.enough))

  abbrev p : ℕ
  p = clear.one

  abbrev q : ℕ
  q = clear.other

  good_p : (x : ℕ) → x < n → faulty p x ≡ 0
  good_p x l = omega (arith, sum_term n (faulty p) x l, untouched_none n faulty p clear.one_passes)

  good_q : (x : ℕ) → x < n → faulty q x ≡ 0
  good_q x l = omega (arith, sum_term n (faulty q) x l, untouched_none n faulty q clear.other_passes)

  -- a running base holds the Correct-Finals of the two
  two_held : (y : ℕ) → y < n → (N.base y).state ≡ 1 → 2 ≤ corrects n (N.base y) truth
  two_held y l runs =
      hears_two n t faulty id truth P N I R y p q l clear.one_below clear.other_below clear.apart (good_p y l) (good_q y l) runs
      (untouched_stopped n t faulty id truth P N I R p clear.one_below (untouched_none n faulty p clear.one_passes))
      (untouched_stopped n t faulty id truth P N I R q clear.other_below (untouched_none n faulty q clear.other_passes))

  module _ (y : ℕ) (y_in : y < n) (runs : (N.base y).state ≡ 1) where
    missed : (x : ℕ) → x < n → x ≢ y → holds_of (N.base y) truth x ≡ false → (eqb y x ≡ false) × TouchedBy n faulty (eqb y) x
    missed x l ne none = (
      ne_eqb y x (λ e. ne (sym e)),
      elim (zero_or_more (faulty x y)) [
        | inr f ↦ inr (y, y_in, eq-eqb y y refl, f)
        | inl good ↦ reached (tells n t faulty id truth P N I R y x y_in l ne good runs)
      ],
    )
      where
        reached : HeardFrom n t faulty id truth P N I R y x → TouchedBy n faulty (eqb y) x
        reached (tells_truth h) = clash h none
        reached (twice_faulty h) = inl h
        reached (silent s few) = absurd (omega (arith, two_held x l s))

    passes_secondary : Secondary n t (N.base y) truth
    passes_secondary = record { tally = tally_enough n t faulty id truth P (N.base y) y (eqb y) missed; two = two_held y y_in runs }

  pub all_stopped : (x : ℕ) → x < n → 2 ≤ (N.base x).state
  all_stopped x l = elim (running_or_not n t faulty id truth P N I R x l) [
    | inl runs ↦ absurd ((I.quiescent x l).not_secondary truth runs (passes_secondary x l runs))
    | inr s ↦ s
  ]

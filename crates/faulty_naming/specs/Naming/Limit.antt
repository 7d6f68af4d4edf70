-- Whether as many links are named as may be.
use Rattle.std.specs.Prelude.{ℕ, ◌≤◌, ◌<◌, ◌≡◌, List, length}
use Rattle.std.proofs.Math.Path.{refl}
use Rattle.std.proofs.Common.{arith, le-leb}
use Rattle.std.proofs.lemmas.Bool.{lt-leb}
use Rattle.lists.specs.Choice.Laws.{chosen_yes, chosen_no}
use Rattle.protocol.specs.Net as Nets
use Rattle.schedule.specs.Header.{faulty_refusal}

module _ (t : ℕ) (faulty : List Nets.Pair) {r : ℕ} (e : r ≡ length faulty) where
  pub too_many : t ≤ r → 15 ≡ faulty_refusal t faulty
  unfolding faulty_refusal
  too_many h = chosen_yes _ (le-leb t (length faulty) (omega arith)) refl

  pub few_enough : r < t → 0 ≡ faulty_refusal t faulty
  unfolding faulty_refusal
  few_enough h = chosen_no _ (lt-leb t (length faulty) (omega arith)) refl

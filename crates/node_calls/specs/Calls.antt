-- A call on a base's record, and the same in terms of what it wrote: an output, and the lengths of up to three frames in it.
use Rattle.std.specs.Prelude.{ℕ, List, [], ◌∷◌}
use Rattle.protocol.specs.declared.Base.{Base}
use Rattle.protocol.specs.declared.Outcome.{Outcome}
use Rattle.protocol.specs.Steps.{Done}
use Rattle.protocol.specs.Net.{call_refusal}
use Rattle.c_answers.specs.Numbers.{outcome_numbers}
use Rattle.node.specs.declared.Node.{Node}
use Rattle.node.specs.Node.{with_base, node_after}
use Rattle.keeping.specs.Keeping.{kept_from, AllFit}
use Rattle.node_calls.specs.declared.NodeAnswer.{NodeAnswer}
pub mod Storable
pub mod Laws

-- the base after the call, beside the number by which the call was turned down
unfoldable pub node_answer : Node → Done → NodeAnswer
node_answer v d = record { refusal = call_refusal d.answer; node = node_after v d }

-- ---- what it wrote
-- the lengths that an outcome tells, none of a call that is turned down
abbrev pub lengths_in : Outcome → List ℕ
lengths_in o = let a = outcome_numbers o in a.first ∷ (a.second ∷ (a.third ∷ []))

abbrev pub Fitting : Outcome → ℕ → Type 0
Fitting o room = AllFit room 0 (lengths_in o)

unfoldable pub written_answer : Node → Base → Outcome → List ℕ → NodeAnswer
written_answer v b o out = record { refusal = (outcome_numbers o).refusal; node = kept_from (with_base v b) out 0 (lengths_in o) }

-- `line_places::place_of` meets its contract: by the range of the number.
use Rattle.stored_walk.specs.Reaching.{node_place}
use Rattle.node.specs.Node.Within.{is_within, below_one, above_most}
use Rattle.lists.specs.Choice.Laws.{chosen_yes, chosen_no}
use mathlib.Core.Path.{refl}
use native.Mathlib.Omega.{arith}
use Rattle.line_places.proofs.place_of.Goals as goal

pub returns-then-number-lt1 : goal.returns-then-number-lt1
unfolding node_place
returns-then-number-lt1 c = (chosen_no _ (below_one _ c.if-number-lt1.true) refl, omega arith)

pub returns-then-number-gt-MOST_BASES : goal.returns-then-number-gt-MOST_BASES
unfolding node_place
returns-then-number-gt-MOST_BASES c = (chosen_no _ (above_most c.if-number-gt-MOST_BASES.true) refl, omega arith)

pub returns : goal.returns
unfolding node_place
returns c = (chosen_yes _ (is_within c.if-number-lt1.false c.if-number-gt-MOST_BASES.false) refl, omega arith)

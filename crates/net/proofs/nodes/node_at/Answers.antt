-- `net::nodes::node_at` meets its contract: by the range of the number.
use mathlib.Core.Path.{refl}
use Rattle.lists.specs.Choice.Laws.{chosen_yes, chosen_no}
use Rattle.node.specs.Node.Within.{is_within, below_one, above_most}
use Rattle.net.specs.Abstraction.{node_at}
use Rattle.net.proofs.nodes.node_at.Goals as goal

pub returns-then-place-lt1 : goal.returns-then-place-lt1
unfolding node_at
returns-then-place-lt1 c = chosen_no _ (below_one _ c.if-place-lt1.true) c.empty_node.ensures

pub returns-then-place-gt-MOST_BASES : goal.returns-then-place-gt-MOST_BASES
unfolding node_at
returns-then-place-gt-MOST_BASES c = chosen_no _ (above_most c.if-place-gt-MOST_BASES.true) c.empty_node-then-place-gt-MOST_BASES.ensures

pub returns : goal.returns
unfolding node_at
returns c = chosen_yes _ (is_within c.if-place-lt1.false c.if-place-gt-MOST_BASES.false) refl

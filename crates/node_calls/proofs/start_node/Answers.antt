-- `node_calls::start_node` meets its contract: the frames of a start fit, and are those that it broadcast.
use mathlib.Core.Path.{refl}
use Rattle.node_calls.specs.Calls.Storable.{start_storable}
use Rattle.node_calls.specs.Calls.Laws.{call_fits, call_answer}
use Rattle.node_calls.proofs.start_node.Goals as goal

pub answered-requires : goal.answered-requires
answered-requires c =
    call_fits c.args.node _ (start_storable _ _) _ refl c.start-change.ensures

pub returns : goal.returns
returns c =
    call_answer c.args.node _ (start_storable _ _) _ refl c.start-change.ensures c.answered.ensures

-- `node_calls::hear_message` meets its contract: the frames of a message that was read fit, and are those that it broadcast.
use mathlib.Core.Path.{refl}
use Rattle.node_calls.proofs.Words.{array_words}
use Rattle.node_calls.specs.Calls.Storable.{message_storable}
use Rattle.node_calls.specs.Calls.Laws.{call_fits, call_answer}
use Rattle.node.proofs.Sizes.{node_base}
use Rattle.node_calls.proofs.hear_message.Goals as goal

pub answered-requires : goal.answered-requires
answered-requires c =
    let G = c.well_formed.1.1.1.0 in
    call_fits c.args.node _ (message_storable _ _ _ _ _ _ (node_base c.args.node _ c.well_formed.0)
    G.1.0.1 (array_words c.args.ids G.0 G.1.1)) _ refl c.hear-change.ensures

pub returns : goal.returns
returns c =
    let G = c.well_formed.1.1.1.0 in
    call_answer c.args.node _ (message_storable _ _ _ _ _ _ (node_base c.args.node _ c.well_formed.0)
    G.1.0.1 (array_words c.args.ids G.0 G.1.1)) _ refl c.hear-change.ensures c.answered.ensures

-- `node_calls::answered` meets its contract: the lengths are those that the outcome tells.
use Rattle.node_calls.specs.Calls.Laws.{numbers_answer}
use Rattle.node_calls.proofs.answered.Goals as goal

pub returns : goal.returns
returns c = numbers_answer _ c.outcome_numbers-answer.ensures _ _ c.requires
    c.changed_base-base.ensures c.keep_three.ensures

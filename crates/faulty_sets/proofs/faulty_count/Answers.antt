-- `faulty_sets::faulty_count` meets its contract: the number of a net that is turned down, or how many sets there are.
use Rattle.faulty_sets.specs.Answers.Laws.{count_refused, count_given}
use Rattle.faulty_sets.proofs.faulty_count.Goals as goal

pub returns-then-refusal-ne0 : goal.returns-then-refusal-ne0
returns-then-refusal-ne0 c = count_refused _ _ c.small_refusal-refusal.ensures c.if-refusal-ne0.true

pub returns : goal.returns
returns c = count_given _ _ c.small_refusal-refusal.ensures c.if-refusal-ne0.false c.set_count.ensures

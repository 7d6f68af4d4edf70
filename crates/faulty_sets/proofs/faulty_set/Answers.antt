-- `faulty_sets::faulty_set` meets its contract: the number of a call that is turned down, or the set that was found, by value.
use Rattle.faulty_sets.specs.Answers.Laws.{set_refused, set_given}
use Rattle.faulty_sets.proofs.faulty_set.Goals as goal

pub returns-then-refusal-ne0 : goal.returns-then-refusal-ne0
returns-then-refusal-ne0 c = set_refused _ _ _ c.set_refusal-refusal.ensures c.if-refusal-ne0.true

pub returns : goal.returns
returns c = set_given _ _ _ c.set_refusal-refusal.ensures c.if-refusal-ne0.false
    c.links_of.ensures c.set_found.ensures.0

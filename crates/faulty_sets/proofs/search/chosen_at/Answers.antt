-- `faulty_sets::search::chosen_at` meets its contract: a place that is in use, or none.
use Rattle.faulty_sets.specs.Search.Laws.{chosen_there, none_chosen}
use Rattle.faulty_sets.proofs.search.chosen_at.Goals as goal

pub returns-then-chosen-i : goal.returns-then-chosen-i
returns-then-chosen-i c = none_chosen c.args.chosen c.args.i c.if-chosen-i.true

pub returns : goal.returns
returns c = chosen_there c.args.chosen c.args.i c.if-chosen-i.false

-- `faulty_c::roster_faulty_set` meets its contract: the answer becomes numbers.
use mathlib.Core.Path.{ap, ◌∙◌}
use Rattle.faulty_c.specs.Numbers.{set_numbers}
use Rattle.faulty_c.proofs.roster_faulty_set.Goals as goal

pub returns : goal.returns
returns c = c.set_numbers.ensures ∙ ap set_numbers c.faulty_set.ensures

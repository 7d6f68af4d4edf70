-- `faulty_c::roster_faulty_count` meets its contract: the answer becomes numbers.
use mathlib.Core.Path.{ap, ◌∙◌}
use Rattle.faulty_c.specs.Numbers.{count_numbers}
use Rattle.faulty_c.proofs.roster_faulty_count.Goals as goal

pub returns : goal.returns
returns c = c.count_numbers.ensures ∙ ap count_numbers c.faulty_count.ensures

-- `faulty_c::count_numbers` meets its contract, by the case of the count.
use mathlib.Core.Path.{sym, ap}
use Rattle.faulty_c.specs.Numbers.{count_numbers}
use Rattle.faulty_c.proofs.count_numbers.Goals as goal

pub returns-in-Sets : goal.returns-in-Sets
unfolding count_numbers
returns-in-Sets c = sym (ap count_numbers c.in-Sets.is)

pub returns-in-Refused : goal.returns-in-Refused
unfolding count_numbers
returns-in-Refused c = sym (ap count_numbers c.in-Refused.is)

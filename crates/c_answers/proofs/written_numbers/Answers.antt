-- `c_answers::written_numbers` meets its contract, by the case of what was written.
use mathlib.Core.Path.{sym, ap}
use Rattle.c_answers.specs.Numbers.{written_numbers}
use Rattle.c_answers.proofs.written_numbers.Goals as goal

pub returns-in-Frame : goal.returns-in-Frame
unfolding written_numbers
returns-in-Frame c = sym (ap written_numbers c.in-Frame.is)

pub returns-in-Refused : goal.returns-in-Refused
unfolding written_numbers
returns-in-Refused c = sym (ap written_numbers c.in-Refused.is)

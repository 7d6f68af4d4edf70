-- `c_answers::leader_numbers` meets its contract, by the case of the leader.
use mathlib.Core.Path.{sym, ap}
use Rattle.c_answers.specs.Numbers.{leader_numbers}
use Rattle.c_answers.proofs.leader_numbers.Goals as goal

pub returns-in-Is : goal.returns-in-Is
unfolding leader_numbers
returns-in-Is c = sym (ap leader_numbers c.in-Is.is)

pub returns-in-NotStopped : goal.returns-in-NotStopped
unfolding leader_numbers
returns-in-NotStopped c = sym (ap leader_numbers c.in-NotStopped.is)

pub returns-in-Refused : goal.returns-in-Refused
unfolding leader_numbers
returns-in-Refused c = sym (ap leader_numbers c.in-Refused.is)

-- `faulty_c::set_numbers` meets its contract, by the case of the set.
use mathlib.Core.Path.{sym, ap}
use Rattle.faulty_c.specs.Numbers.{set_numbers}
use Rattle.faulty_c.proofs.set_numbers.Goals as goal

pub returns-in-Links : goal.returns-in-Links
unfolding set_numbers
returns-in-Links c = sym (ap set_numbers c.in-Links.is)

pub returns-in-Refused : goal.returns-in-Refused
unfolding set_numbers
returns-in-Refused c = sym (ap set_numbers c.in-Refused.is)

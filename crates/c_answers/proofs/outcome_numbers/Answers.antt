-- `c_answers::outcome_numbers` meets its contract, by the case of the outcome.
use mathlib.Core.Path.{sym, ap, ◌∙◌}
use Rattle.c_answers.specs.Numbers.{outcome_numbers}
use Rattle.c_answers.proofs.outcome_numbers.Goals as goal

pub returns-in-Accepted : goal.returns-in-Accepted
unfolding outcome_numbers
returns-in-Accepted c = c.in_numbers.ensures ∙ sym (ap outcome_numbers c.in-Accepted.is)

pub returns-in-Discarded : goal.returns-in-Discarded
unfolding outcome_numbers
returns-in-Discarded c = c.in_numbers-in-Discarded.ensures ∙ sym (ap outcome_numbers c.in-Discarded.is)

pub returns-in-Refused : goal.returns-in-Refused
unfolding outcome_numbers
returns-in-Refused c = sym (ap outcome_numbers c.in-Refused.is)

-- `accepting::accept` meets its contract, by the kind.
use Rattle.accepting.specs.Accepting.{accepted_on}
use Rattle.change.specs.Heard.Laws.{kind_one, kind_two, kind_three, kind_four, kind_none}
use mathlib.Core.Path.{sym, ◌∙◌}
use Rattle.accepting.proofs.accept.Goals as goal

pub returns-in-1 : goal.returns-in-1
unfolding accepted_on
returns-in-1 c = c.announced.ensures ∙ sym (kind_one _ _ _ _ _ c.in-1.is)

pub returns-in-2 : goal.returns-in-2
unfolding accepted_on
returns-in-2 c = c.verified.ensures ∙ sym (kind_two _ _ _ _ _ c.in-2.is)

pub returns-in-3 : goal.returns-in-3
unfolding accepted_on
returns-in-3 c = c.listed.ensures ∙ sym (kind_three _ _ _ _ _ c.in-3.is)

pub returns-in-4 : goal.returns-in-4
unfolding accepted_on
returns-in-4 c = c.listed-in-4.ensures ∙ sym (kind_four _ _ _ _ _ c.in-4.is)

pub returns-in_default : goal.returns-in_default
unfolding accepted_on
returns-in_default c = let R = c.in_default.in_default-own.rest in sym (kind_none _ _ _ _ _ R.0.0.0.1 R.0.0.1 R.0.1 R.1)

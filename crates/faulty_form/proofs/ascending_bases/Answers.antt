-- `faulty_form::ascending_bases` meets its contract: the tests that led to each return.
use mathlib.Core.Path.{refl, sym, ◌∙◌}
use Rattle.lists.specs.Choice.Laws.{and_fails, and_goes_on}
use Rattle.faulty_form.proofs.ascending_bases.Goals as goal

pub returns-then-is_base-2 : goal.returns-then-is_base-2
returns-then-is_base-2 c =
    and_goes_on (sym c.is_base.ensures ∙ c.if-is_base.true)
    (and_goes_on (sym c.is_base-then-is_base.ensures ∙ c.if-is_base-2.true) refl)

pub returns-else-is_base-2 : goal.returns-else-is_base-2
returns-else-is_base-2 c =
    and_goes_on (sym c.is_base.ensures ∙ c.if-is_base.true)
    (and_fails _ (sym c.is_base-then-is_base.ensures ∙ c.if-is_base-2.false))

pub returns-else-is_base : goal.returns-else-is_base
returns-else-is_base c = and_fails _ (sym c.is_base.ensures ∙ c.if-is_base.false)

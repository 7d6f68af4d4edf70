-- `list_soundness::list_sound` meets its contract: the tests stand in the order of the definition.
use mathlib.Core.Path.{sym, ◌∙◌}
use Rattle.protocol.specs.Sound.{list_sound}
use Rattle.lists.specs.Choice.Laws.{and_fails, and_goes_on}
use Rattle.list_soundness.proofs.list_sound.Goals as goal

pub returns-then-not-none_zero : goal.returns-then-not-none_zero
unfolding list_sound
returns-then-not-none_zero c = and_fails _ (sym c.none_zero.ensures ∙ c.if-not-none_zero.true)

pub returns-then-not-ascends : goal.returns-then-not-ascends
unfolding list_sound
returns-then-not-ascends c = and_goes_on (sym c.none_zero.ensures ∙ c.if-not-none_zero.false)
    (and_fails _ (sym c.ascends.ensures ∙ c.if-not-ascends.true))

pub returns : goal.returns
unfolding list_sound
returns c = and_goes_on (sym c.none_zero.ensures ∙ c.if-not-none_zero.false)
    (and_goes_on (sym c.ascends.ensures ∙ c.if-not-ascends.false) c.zero_behind.ensures)

-- `link_soundness::verifies_sound` meets its contract: the tests stand in the order of the definition.
use mathlib.Core.Path.{sym, ◌∙◌}
use Rattle.protocol.specs.Sound.{verifies_sound}
use Rattle.protocol.specs.Links.{verifies_of}
use Rattle.lists.specs.Choice.Laws.{and_fails, and_goes_on}
use Rattle.link_soundness.proofs.verifies_sound.Goals as goal

pub returns-then-not-none_zero : goal.returns-then-not-none_zero
unfolding verifies_sound verifies_of
returns-then-not-none_zero c = and_fails _ (sym c.none_zero.ensures ∙ c.if-not-none_zero.true)

pub returns-then-not-differ : goal.returns-then-not-differ
unfolding verifies_sound verifies_of
returns-then-not-differ c = and_goes_on (sym c.none_zero.ensures ∙ c.if-not-none_zero.false)
    (and_fails _ (sym c.differ.ensures ∙ c.if-not-differ.true))

pub returns : goal.returns
unfolding verifies_sound verifies_of
returns c = and_goes_on (sym c.none_zero.ensures ∙ c.if-not-none_zero.false)
    (and_goes_on (sym c.differ.ensures ∙ c.if-not-differ.false) c.zero_behind.ensures)

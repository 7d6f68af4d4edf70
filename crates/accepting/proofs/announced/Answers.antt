-- `accepting::announced` meets its contract: the three reasons to discard come in the order of the definition.
use Rattle.accepting.specs.Accepting.Laws.{when_discarded, when_accepted}
use Rattle.accepting.specs.Accepting.{on_announce_link}
use Rattle.protocol.specs.Steps.{with_announce}
use Rattle.lists.specs.Choice.Laws.{or_first, or_second, or_neither}
use mathlib.Core.Path.{sym, ◌∙◌}
use Rattle.accepting.proofs.announced.Goals as goal

pub returns-then-has_announce : goal.returns-then-has_announce
unfolding on_announce_link
returns-then-has_announce c = when_discarded _ _ (or_first _ (sym c.has_announce.ensures ∙ c.if-has_announce.true))

pub returns-then-certified : goal.returns-then-certified
unfolding on_announce_link
returns-then-certified c = when_discarded _ _ (or_second _ (or_first _ c.if-certified.true))

pub returns-then-is_full : goal.returns-then-is_full
unfolding on_announce_link
returns-then-is_full c = when_discarded _ _ (or_second _ (or_second _ (sym c.is_full.ensures ∙ c.if-is_full.true)))

pub returns : goal.returns
unfolding on_announce_link with_announce
returns c =
    when_accepted _ _
    (or_neither (sym c.has_announce.ensures ∙ c.if-has_announce.false)
    (or_neither c.if-certified.false (sym c.is_full.ensures ∙ c.if-is_full.false)))

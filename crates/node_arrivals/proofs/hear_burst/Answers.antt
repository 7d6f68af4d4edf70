-- `node_arrivals::hear_burst` meets its contract: a burst that cannot be read, or the call with what was read.
use Rattle.node_arrivals.specs.Arrivals.Laws.{burst_unread, burst_unheard, burst_heard}
use mathlib.Core.Path.{◌≡◌, sym, ◌∙◌}
use Rattle.reader.specs.declared.Reading.TheVariants.{Message}
use Rattle.reader.specs.Answers.{reading_of}
use Rattle.node_arrivals.proofs.hear_burst.Goals as goal

pub returns-in_default : goal.returns-in_default
returns-in_default c = burst_unread _ _ _ _ _ (sym c.read.ensures ∙ c.in_default.is)

pub returns-then-answer-ne0 : goal.returns-then-answer-ne0
returns-then-answer-ne0 c = let message : let a = c.args in
    reading_of a.node.base.n a.burst.now ≡ Message c.in-Message.kind c.in-Message.count c.in-Message.start =
    sym c.read.ensures ∙ c.in-Message.is in
    burst_unheard _ _ _ _ _ message c.identifiers_at-ids.ensures c.hear_message-answer.ensures c.if-answer-ne0.true

pub returns : goal.returns
returns c = let message : let a = c.args in
    reading_of a.node.base.n a.burst.now ≡ Message c.in-Message.kind c.in-Message.count c.in-Message.start =
    sym c.read.ensures ∙ c.in-Message.is in
    burst_heard _ _ _ _ _ message c.identifiers_at-ids.ensures c.hear_message-answer.ensures
    c.if-answer-ne0.false c.mark.ensures

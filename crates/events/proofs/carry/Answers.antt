-- `events::carry` meets its contract: turned down by 16 or 17, or the frame arrives and is marked.
use Rattle.events.specs.Events.Laws.{carry_refused, carry_heard}
use Rattle.events.proofs.carry.Goals as goal

pub returns-then-refusal-ne0 : goal.returns-then-refusal-ne0
returns-then-refusal-ne0 c = carry_refused _ _ _ _ _ _ c.carry_refusal-refusal.ensures c.if-refusal-ne0.true

pub returns : goal.returns
returns c = carry_heard _ _ _ _ _ _ c.carry_refusal-refusal.ensures c.if-refusal-ne0.false
    c.link_to.ensures c.frame_at.ensures c.hear_frame.ensures

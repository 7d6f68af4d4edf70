-- `events::forge` meets its contract: turned down by 18, or the burst arrives.
use Rattle.events.specs.Events.Laws.{forge_refused, forge_heard}
use Rattle.events.proofs.forge.Goals as goal

pub returns-then-is_good : goal.returns-then-is_good
returns-then-is_good c = forge_refused _ _ _ _ _ c.is_good.ensures c.if-is_good.true

pub returns : goal.returns
returns c = forge_heard _ _ _ _ _ c.is_good.ensures
    c.if-is_good.false c.link_to.ensures c.hear_burst.ensures

-- `carry_refusals::carry_refusal` meets its contract: 16, then 17.
use Rattle.carry_refusals.specs.Carry.Laws.{not_numbered, not_broadcast, repeated, first_time, on_a_faulty_link}
use Rattle.carry_refusals.proofs.carry_refusal.Goals as goal

pub returns-then-k-eq0 : goal.returns-then-k-eq0
returns-then-k-eq0 c = not_numbered _ _ _ _ _ _ c.if-k-eq0.true

pub returns-then-broadcasts-k : goal.returns-then-broadcasts-k
returns-then-broadcasts-k c = not_broadcast _ _ _ _ _ _ c.broadcasts.ensures.0 c.if-broadcasts-k.true

pub returns-then-heard_by : goal.returns-then-heard_by
returns-then-heard_by c = repeated _ _ _ _ _ _ c.if-k-eq0.false
    c.broadcasts.ensures.0 c.if-broadcasts-k.false
    c.is_good.ensures c.if-is_good.true c.heard_by.ensures c.if-heard_by.true

pub returns-else-heard_by : goal.returns-else-heard_by
returns-else-heard_by c = first_time _ _ _ _ _ _
    c.if-k-eq0.false c.broadcasts.ensures.0
    c.if-broadcasts-k.false c.heard_by.ensures c.if-heard_by.false

pub returns-else-is_good : goal.returns-else-is_good
returns-else-is_good c = on_a_faulty_link _ _ _ _ _ _ c.if-k-eq0.false
    c.broadcasts.ensures.0 c.if-broadcasts-k.false c.is_good.ensures c.if-is_good.false

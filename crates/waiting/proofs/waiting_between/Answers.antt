-- `waiting::waiting_between` meets its contract: nothing for the base itself and on a faulty link.
use native.Mathlib.Omega.{arith}
use Rattle.waiting.specs.Waits.Laws.{own_broadcasts, faulty_waits_none, on_a_good_link, total_most}
use Rattle.waiting.proofs.waiting_between.Goals as goal

pub returns-then-a-b : goal.returns-then-a-b
returns-then-a-b c = (own_broadcasts _ _ _ _ _ c.if-a-b.true, omega arith)

pub returns-then-not-is_good : goal.returns-then-not-is_good
returns-then-not-is_good c = (faulty_waits_none _ _ _ _ _ c.is_good.ensures (c.if-not-is_good.true), omega arith)

pub returns : goal.returns
returns c = (
  on_a_good_link _ _ _ _ _ c.broadcasts.ensures.0
      c.unheard.ensures c.if-a-b.false c.is_good.ensures
      (c.if-not-is_good.false),
  total_most _ _ c.unheard.ensures c.broadcasts.ensures.1,
)

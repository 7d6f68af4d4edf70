-- `correct_finals::correct_count` meets its contract: the links that hold Correct-Final of the list are counted one after another.
use Prim.Native.Nat.{◌-◌}
use mathlib.Core.Path.{refl, ap, ◌∙◌}
use native.Mathlib.Omega.{arith}
use Rattle.counted_links.specs.Counted.{counted_none, counted_next, counted_all}
use Rattle.counting.specs.Sums.{bit}
use Rattle.protocol.specs.Record.{link_at, correct_count}
use Rattle.protocol.specs.Links.{holds_correct}
use Rattle.correct_finals.proofs.correct_count.Goals as goal

pub loop-i-init : goal.loop-i-init
loop-i-init c = counted_none _ _ _

pub loop-i-preserved : goal.loop-i-preserved
unfolding link_at holds_correct
loop-i-preserved c = counted_next _ _ c.loop-i.invariant c.loop-i-test.true refl (c.one-count.ensures.0 ∙ ap bit c.holds_vector.ensures)

pub returns : goal.returns
unfolding correct_count
returns c = counted_all _ _ c.loop-i.invariant (omega arith) c.links_in-k.ensures

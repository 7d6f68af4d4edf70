-- `correct_finals::correct_count` meets its contract: the links that hold Correct-Final of the list are counted one after another.
use Prim.Native.Nat.{◌-◌}
use lib.ListN.{take}
use Rattle.counted_links.specs.Counted.{Counted}
use Rattle.protocol.specs.Links.{holds_correct}
use Rattle.correct_finals.proofs.correct_count.Given as goal

abbrev pub invariant-loop-i : goal.invariant-loop-i
invariant-loop-i l = Counted l.base (λ link. holds_correct l.base.n link (take l.base.n l.v)) l.k l.i l.count

abbrev pub decreases-loop-i : goal.decreases-loop-i
decreases-loop-i l = l.k - l.i

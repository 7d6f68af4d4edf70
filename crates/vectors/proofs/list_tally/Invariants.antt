-- `vectors::list_tally` meets its contract: the links that hold the list are counted one after another, and a link gives one of
-- its two kinds at most.
use Prim.Native.Nat.{◌-◌}
use lib.ListN.{take}
use Rattle.counted_links.specs.Counted.{Counted}
use Rattle.protocol.specs.Links.{holds_list}
use Rattle.vectors.proofs.list_tally.Given as goal

abbrev pub invariant-loop-i : goal.invariant-loop-i
invariant-loop-i l = Counted l.base (λ link. holds_list l.base.n link (take l.base.n l.v)) l.k l.i l.count

abbrev pub decreases-loop-i : goal.decreases-loop-i
decreases-loop-i l = l.k - l.i

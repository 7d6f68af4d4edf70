-- `tally::verify_links` meets its contract: the links that hold Verify g are counted one after another.
use Prim.Native.Nat.{◌-◌}
use Rattle.counted_links.specs.Counted.{Counted}
use Rattle.protocol.specs.Links.{holds_verify}
use Rattle.tally.proofs.verify_links.Given as goal

abbrev pub invariant-loop-i : goal.invariant-loop-i
invariant-loop-i l = Counted l.base (λ link. holds_verify link l.g) l.k l.i l.count

abbrev pub decreases-loop-i : goal.decreases-loop-i
decreases-loop-i l = l.k - l.i

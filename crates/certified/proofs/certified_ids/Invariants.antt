-- `certified::certified_ids` meets its contract. Invariant: all but the identifiers announced at the first i places stand in the array.
use Rattle.certified.specs.Listed.{Gathered}
use Rattle.limits.specs.Limits.{most_links}
use Prim.Native.Nat.{◌≤◌}
use Rattle.certified.proofs.certified_ids.Given as goal

abbrev pub invariant-loop-i : goal.invariant-loop-i
invariant-loop-i l = Gathered l.base l.i l.ids l.count × (l.i ≤ most_links)

abbrev pub decreases-loop-i : goal.decreases-loop-i
decreases-loop-i l = l.i

-- `comparison::ascends` meets its contract. Invariant: the identifiers ascend exactly if they ascend from i on.
use Prim.Native.Nat.{◌≤◌, ◌-◌}
use mathlib.Core.Path.{◌≡◌}
use lib.ListN.{take, drop}
use Rattle.lists.specs.Lists.{ascending}
use Rattle.comparison.proofs.ascends.Given as goal

abbrev pub invariant-loop-i : goal.invariant-loop-i
invariant-loop-i l = (l.i ≤ l.end) × (ascending (take l.count l.ids) ≡ ascending (drop l.i (take l.count l.ids)))

abbrev pub decreases-loop-i : goal.decreases-loop-i
decreases-loop-i l = l.end - l.i

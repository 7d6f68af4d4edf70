-- `membership::differ` meets its contract. Invariant: none stands there twice exactly if none does from i on.
use Prim.Native.Nat.{◌≤◌, ◌-◌}
use mathlib.Core.Path.{◌≡◌}
use lib.ListN.{take, drop}
use Rattle.lists.specs.Lists.{distinct}
use Rattle.membership.proofs.differ.Given as goal

abbrev pub invariant-loop-i : goal.invariant-loop-i
invariant-loop-i l = (l.i ≤ l.end) × (distinct (take l.count l.ids) ≡ distinct (drop l.i (take l.count l.ids)))

abbrev pub decreases-loop-i : goal.decreases-loop-i
decreases-loop-i l = l.end - l.i

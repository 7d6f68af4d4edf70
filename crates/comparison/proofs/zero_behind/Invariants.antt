-- `comparison::zero_behind` meets its contract. Invariant: all behind are zero exactly if all from i on are.
use Prim.Native.Nat.{◌-◌}
use mathlib.Core.Path.{◌≡◌}
use lib.ListN.{length, drop}
use Rattle.lists.specs.Lists.{zeros}
use Rattle.comparison.proofs.zero_behind.Given as goal

abbrev pub invariant-loop-i : goal.invariant-loop-i
invariant-loop-i l = zeros (drop l.count l.ids) ≡ zeros (drop l.i l.ids)

abbrev pub decreases-loop-i : goal.decreases-loop-i
decreases-loop-i l = length l.ids - l.i

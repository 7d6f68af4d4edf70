-- `comparison::same` meets its contract. Two fronts of different lengths are not the same;
-- else the invariant says that they are the same exactly if they are from i on.
use Prim.Native.Nat.{◌-◌}
use mathlib.Core.Path.{◌≡◌}
use lib.ListN.{take, drop}
use Rattle.lists.specs.Lists.{same_list}
use Rattle.comparison.proofs.same.Given as goal

abbrev pub invariant-loop-i : goal.invariant-loop-i
invariant-loop-i l = same_list (take l.count l.a) (take l.count l.b) ≡ same_list (drop l.i (take l.count l.a)) (drop l.i (take l.count l.b))

abbrev pub decreases-loop-i : goal.decreases-loop-i
decreases-loop-i l = l.end - l.i

-- `marks::unheard` meets its contract. Invariant: the total is that of the broadcasts looked at.
use Prim.Native.Nat.{suc, ◌≤◌, ◌-◌}
use mathlib.Core.Path.{◌≡◌}
use mathlib.Core.Bool.{not}
use Rattle.counting.specs.Sums.{bit, sum}
use Rattle.node.specs.Node.{heard_by}
use Rattle.marks.proofs.unheard.Given as goal

abbrev pub invariant-loop-i : goal.invariant-loop-i
invariant-loop-i l = (l.i ≤ l.count) × (l.total ≤ l.i) × (l.total ≡ sum l.i (λ j. bit (not (heard_by l.node l.a (suc j)))))

abbrev pub decreases-loop-i : goal.decreases-loop-i
decreases-loop-i l = l.count - l.i

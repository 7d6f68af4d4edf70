-- `waiting::waiting` meets its contract: the sum over the senders passed.
use Prim.Native.Nat.{suc, ◌*◌, ◌-◌, ◌≤◌}
use mathlib.Core.Path.{◌≡◌}
use Rattle.limits.specs.Limits.{most_bases}
use Rattle.counting.specs.Sums.{sum}
use Rattle.protocol.specs.Net.{waiting_from}
use Rattle.node.specs.Node.{most_broadcasts}
use Rattle.net.specs.Abstraction.{net_of, faulty_of, size}
use Rattle.waiting.proofs.waiting.Given as goal

abbrev pub invariant-loop-a : goal.invariant-loop-a
invariant-loop-a l = (l.a ≤ l.n) × (l.n ≡ size l.net) × (l.n ≤ most_bases) × (l.total ≤ l.a * (most_bases * most_broadcasts))
    × (l.total ≡ sum l.a (λ i. sum (size l.net) (λ j. waiting_from (faulty_of l.net) (net_of l.net) (suc i) (suc j))))

abbrev pub decreases-loop-a : goal.decreases-loop-a
decreases-loop-a l = l.n - l.a

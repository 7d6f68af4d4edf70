-- `waiting::waiting_from` meets its contract: the sum over the receivers passed.
use Prim.Native.Nat.{suc, ◌*◌, ◌-◌, ◌≤◌}
use mathlib.Core.Path.{◌≡◌}
use Rattle.limits.specs.Limits.{most_bases}
use Rattle.counting.specs.Sums.{sum}
use Rattle.protocol.specs.Net.{waiting_from}
use Rattle.node.specs.Node.{most_broadcasts}
use Rattle.net.specs.Abstraction.{net_of, faulty_of, size}
use Rattle.waiting.proofs.waiting_from.Given as goal

abbrev pub invariant-loop-b : goal.invariant-loop-b
invariant-loop-b l = (l.b ≤ l.n) × (l.n ≡ size l.net)
    × (l.n ≤ most_bases) × (l.total ≤ l.b * most_broadcasts) × (l.total ≡ sum l.b (λ j. waiting_from (faulty_of l.net) (net_of l.net)
    (suc l.a) (suc j)))

abbrev pub decreases-loop-b : goal.decreases-loop-b
decreases-loop-b l = l.n - l.b

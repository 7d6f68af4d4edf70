-- `net::made::idle_nodes` meets its contract. Invariant: the first i nodes are those of the first i identifiers.
use Prim.Native.Nat.{◌-◌, ◌≤◌}
use mathlib.Core.Path.{◌≡◌}
use mathlib.Core.List.{map}
use lib.ListN.{length, take}
use Rattle.limits.specs.Limits.{most_bases}
use Rattle.net.specs.Header.{idle_node}
use Rattle.net.proofs.made.idle_nodes.Given as goal

abbrev pub invariant-loop-i : goal.invariant-loop-i
invariant-loop-i l =
    (l.i ≤ most_bases) × ((length l.nodes ≡ most_bases) × (take l.i l.nodes ≡ map (idle_node l.n l.t) (take l.i l.ids)))

abbrev pub decreases-loop-i : goal.decreases-loop-i
decreases-loop-i l = most_bases - l.i

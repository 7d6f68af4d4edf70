-- `leader_rule::leader_of` meets its contract: before place i, the largest of the places from i on is known.
use Prim.Native.Nat.{◌≤◌}
use mathlib.Core.Path.{◌≡◌}
use lib.ListN.{length, drop}
use Rattle.protocol.specs.Steps.{leader_of}
use Rattle.leader_rule.proofs.leader_of.Given as goal

abbrev pub invariant-loop-i : goal.invariant-loop-i
invariant-loop-i l = (l.most ≡ leader_of (drop l.i (l.list))) × (l.i ≤ length (l.list))

abbrev pub decreases-loop-i : goal.decreases-loop-i
decreases-loop-i l = l.i

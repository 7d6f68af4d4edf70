-- `sum_of_tallies::verified_of` meets its contract. Invariant: the sum is that of the identifiers from place j on.
use Prim.Native.Nat.{◌≤◌, ◌+◌}
use mathlib.Core.Path.{◌≡◌}
use lib.ListN.{take, drop}
use Rattle.protocol.specs.Links.{holds_verify}
use Rattle.lists.specs.Lists.{sum_over}
use Rattle.counting.specs.Sums.{bit}
use Rattle.sum_of_tallies.proofs.verified_of.Given as goal

abbrev pub invariant-loop-j : goal.invariant-loop-j
invariant-loop-j l = (l.sum + l.j ≤ l.count) × (l.sum ≡ sum_over (drop l.j (take l.count l.ids)) (λ g. bit (holds_verify l.link g)))

abbrev pub decreases-loop-j : goal.decreases-loop-j
decreases-loop-j l = l.j

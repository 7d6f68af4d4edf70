-- `sum_of_tallies::verified_sum` meets its contract. Invariant: the sum is how many of the identifiers the links below place i hold.
use Prim.Native.Nat.{◌≤◌, ◌-◌, ◌*◌}
use mathlib.Core.Path.{◌≡◌}
use lib.ListN.{take}
use Rattle.protocol.specs.Record.{link_at}
use Rattle.protocol.specs.Links.{holds_verify}
use Rattle.limits.specs.Limits.{most_bases}
use Rattle.lists.specs.Lists.{sum_over}
use Rattle.counting.specs.Sums.{bit}
use Rattle.counting.specs.Sums as Sums
use Rattle.sum_of_tallies.proofs.verified_sum.Given as goal

abbrev pub invariant-loop-i : goal.invariant-loop-i
invariant-loop-i l = (l.i ≤ l.k)
    × ((l.sum ≤ most_bases * l.i) × (l.sum ≡ Sums.sum l.i (λ m. sum_over (take l.count l.ids) (λ g. bit (holds_verify
    (link_at l.base m) g)))))

abbrev pub decreases-loop-i : goal.decreases-loop-i
decreases-loop-i l = l.k - l.i

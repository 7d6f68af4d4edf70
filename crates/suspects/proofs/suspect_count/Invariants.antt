-- `suspects::suspect_count` meets its contract. Invariants: the count is that of the pairs among the places below i and of
-- those with the own identifier; within, it has grown by the suspect pairs of the link at place i with those below j.
use Prim.Native.Nat.{◌≤◌, ◌-◌, ◌+◌, ◌*◌}
use mathlib.Core.Path.{◌≡◌}
use Rattle.limits.specs.Limits.{most_links}
use Rattle.protocol.specs.Record.{link_at, suspect_pair, suspect_own}
use Rattle.counting.specs.Sums.{bit}
use Rattle.counting.specs.Sums as Sums
use Rattle.suspects.proofs.suspect_count.Given as goal

abbrev pub invariant-loop-j : goal.invariant-loop-j
invariant-loop-j l =
    (l.j ≤ l.i) × ((l.count ≤ l.initial.count + l.j) × (l.count ≡ l.initial.count + Sums.sum l.j (λ m. bit (suspect_pair l.link
    (link_at l.base m)))))

abbrev pub decreases-loop-j : goal.decreases-loop-j
decreases-loop-j l = l.i - l.j

abbrev pub invariant-loop-i : goal.invariant-loop-i
invariant-loop-i l = (l.i ≤ l.k) × ((l.count ≤ most_links * l.i) × (l.count ≡ Sums.sum l.i (λ m.
    Sums.sum m (λ j. bit (suspect_pair (link_at l.base m) (link_at l.base j)))) + Sums.sum l.i (λ m. bit (suspect_own l.own
    (link_at l.base m)))))

abbrev pub decreases-loop-i : goal.decreases-loop-i
decreases-loop-i l = l.k - l.i

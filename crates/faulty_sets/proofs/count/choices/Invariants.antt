-- `faulty_sets::count::choices` meets its contract. Invariant: the sets of `size` are counted; one factor and one divisor more counts those
-- of one pair more.
use Prim.Native.Nat.{◌-◌, ◌≤◌}
use mathlib.Core.Path.{◌≡◌}
use Rattle.link_sets.specs.Count.{choices}
use Rattle.faulty_sets.proofs.count.choices.Given as goal

abbrev pub invariant-loop-size : goal.invariant-loop-size
invariant-loop-size l = (l.size ≤ l.k) × (l.k ≤ l.m) × (l.sets ≡ choices l.m l.size)

abbrev pub decreases-loop-size : goal.decreases-loop-size
decreases-loop-size l = l.k - l.size

-- `faulty_sets::count::choices_below` meets its contract. Invariant: the sets of fewer than `size` are counted.
use Prim.Native.Nat.{◌-◌, ◌≤◌}
use mathlib.Core.Path.{◌≡◌}
use Rattle.link_sets.specs.Count.{choices_below}
use Rattle.faulty_sets.proofs.count.choices_below.Given as goal

abbrev pub invariant-loop-size : goal.invariant-loop-size
invariant-loop-size l = (l.size ≤ l.k) × (l.sets ≡ choices_below l.m l.size)

abbrev pub decreases-loop-size : goal.decreases-loop-size
decreases-loop-size l = l.k - l.size

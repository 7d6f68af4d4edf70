-- `faulty_sets::count::of_size` meets its contract. Invariant: the sets of fewer than `size` stand before the number, and `rest` more.
use Prim.Native.Nat.{◌+◌, ◌-◌, ◌≤◌}
use mathlib.Core.Path.{◌≡◌}
use Rattle.link_sets.specs.Count.{choices_below}
use Rattle.faulty_sets.proofs.count.of_size.Given as goal

abbrev pub invariant-loop-size : goal.invariant-loop-size
invariant-loop-size l = (l.size ≤ l.t) × (l.number ≡ choices_below l.m l.size + l.rest)

abbrev pub decreases-loop-size : goal.decreases-loop-size
decreases-loop-size l = l.t - l.size

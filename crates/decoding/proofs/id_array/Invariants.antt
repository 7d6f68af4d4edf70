-- `decoding::id_array` meets its contract. Invariant: the array holds the first i identifiers of the body, zeros behind.
use Prim.Native.Nat.{◌≤◌, ◌-◌, ◌*◌}
use mathlib.Core.Path.{◌≡◌}
use lib.ListN.{length}
use Rattle.lists.specs.Lists.{pad_to}
use Rattle.limits.specs.Limits.{most_bases}
use Rattle.frame.specs.Reading as spec
use Rattle.decoding.proofs.id_array.Given as goal

abbrev pub invariant-loop-i : goal.invariant-loop-i
invariant-loop-i l = (l.i ≤ most_bases) × ((4 * l.i ≤ length l.body) × (l.ids ≡ pad_to most_bases (spec.identifiers l.i l.body)))

abbrev pub decreases-loop-i : goal.decreases-loop-i
decreases-loop-i l = most_bases - l.i

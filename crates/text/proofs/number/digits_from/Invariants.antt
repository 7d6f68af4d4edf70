-- `text::number::digits_from` meets its contract. Invariant: the digits from the beginning give what those from i on give after v.
use Prim.Native.Nat.{◌≤◌, ◌-◌}
use mathlib.Core.Path.{◌≡◌}
use lib.ListN.{length, drop}
use Rattle.text.specs.Number.{most_number, digits_from}
use Rattle.text.proofs.number.digits_from.Given as goal

abbrev pub invariant-loop-i : goal.invariant-loop-i
invariant-loop-i l = (l.v ≤ most_number) × (digits_from (drop l.at l.s) l.first l.at ≡ digits_from (drop l.i l.s) l.v l.i)

abbrev pub decreases-loop-i : goal.decreases-loop-i
decreases-loop-i l = length l.s - l.i

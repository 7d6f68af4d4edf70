-- `hexadecimal::hex_from` meets its contract. Invariant: the walk from the beginning ends as the one from i on does, count bytes being
-- counted.
use Prim.Native.Nat.{◌-◌, ◌≤◌}
use mathlib.Core.Path.{◌≡◌}
use lib.ListN.{length, drop}
use Rattle.hexadecimal.specs.Hex.{hex_from}
use Rattle.hexadecimal.proofs.hex_from.Given as goal

abbrev pub invariant-loop-i : goal.invariant-loop-i
invariant-loop-i l = (l.count ≤ l.i) × (hex_from (drop l.at l.s) 0 l.at ≡ hex_from (drop l.i l.s) l.count l.i)

abbrev pub decreases-loop-i : goal.decreases-loop-i
decreases-loop-i l = length l.s - l.i

-- `hex_bytes::hex_array` meets its contract. Invariant: the array holds the first i bytes.
use Prim.Native.Nat.{◌-◌, ◌/◌, ◌≤◌, min}
use mathlib.Core.Path.{◌≡◌}
use lib.ListN.{length, drop}
use Rattle.limits.specs.Limits.{longest_forgery}
use Rattle.lists.specs.Lists.{pad_to}
use Rattle.hexadecimal.specs.Hex.{hex_bytes}
use Rattle.hex_bytes.proofs.hex_array.Given as goal

abbrev pub invariant-loop-i : goal.invariant-loop-i
invariant-loop-i l =
    (l.i ≤ l.end) × ((l.end ≡ min (min l.count longest_forgery) ((length l.s - l.at) / 2)) × (l.bytes ≡ pad_to longest_forgery
    (hex_bytes l.i (drop l.at l.s))))

abbrev pub decreases-loop-i : goal.decreases-loop-i
decreases-loop-i l = l.end - l.i

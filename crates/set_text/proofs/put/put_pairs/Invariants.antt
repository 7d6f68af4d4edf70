-- `set_text::put::put_pairs` meets its contract. Invariant: the lines of the first i links are put.
use Prim.Native.Nat.{◌+◌, ◌*◌, ◌-◌, ◌≤◌}
use mathlib.Core.Path.{◌≡◌}
use lib.ListN.{length, take}
use Rattle.print.specs.Put.{Put}
use Rattle.set_text.specs.Text.{pair_room, pair_lines}
use Rattle.set_text.proofs.put.put_pairs.Given as goal

abbrev pub invariant-loop-i : goal.invariant-loop-i
invariant-loop-i l =
    (l.i ≤ l.count) × (l.end ≤ l.at + pair_room * l.i) × (length l.out ≡ length l.initial.out) × Put l.initial.out l.at (pair_lines
    (take l.i l.pairs)) l.out l.end

abbrev pub decreases-loop-i : goal.decreases-loop-i
decreases-loop-i l = l.count - l.i

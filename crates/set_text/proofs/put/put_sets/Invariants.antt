-- `set_text::put::put_sets` meets its contract. Invariant: the lines of the sets below the number are put.
use Prim.Native.Nat.{◌*◌, ◌-◌, ◌≤◌}
use mathlib.Core.Path.{◌≡◌}
use lib.ListN.{length, take}
use Rattle.link_sets.specs.Sets.{faulty_sets}
use Rattle.print.specs.Put.{Put}
use Rattle.set_text.specs.Text.{set_room, lines_from}
use Rattle.set_text.proofs.put.put_sets.Given as goal

abbrev pub invariant-loop-number : goal.invariant-loop-number
invariant-loop-number l =
    (l.number ≤ l.count) × (l.at ≤ set_room * l.number) × (length l.out ≡ length l.initial.out) × Put l.initial.out 0 (lines_from 0
    (take l.number (faulty_sets l.n l.t))) l.out l.at

abbrev pub decreases-loop-number : goal.decreases-loop-number
decreases-loop-number l = l.count - l.number

-- `state_text::put_list` meets its contract. Invariant: the first i identifiers are put, each within its room.
use Prim.Native.Nat.{◌+◌, ◌*◌, ◌-◌, ◌≤◌}
use mathlib.Core.Path.{◌≡◌}
use lib.ListN.{length, take}
use Rattle.print.specs.Put.{Put}
use Rattle.schedule.specs.Report.{identifier_room, list_text}
use Rattle.state_text.proofs.put_list.Given as goal

abbrev pub invariant-loop-i : goal.invariant-loop-i
invariant-loop-i l =
    (l.i ≤ length l.ids) × ((l.end ≤ l.at + identifier_room * l.i) × ((length l.out ≡ length l.initial.out) × Put l.initial.out l.at
    (list_text (take l.i l.ids)) l.out l.end))

abbrev pub decreases-loop-i : goal.decreases-loop-i
decreases-loop-i l = length l.ids - l.i

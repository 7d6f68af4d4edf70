-- `set_text::sets_text` meets its contract: where there is room for all lines, those of the net that the first line names.
use native.Mathlib.Omega.{arith}
use Prim.Native.Nat.{◌+◌, ◌≤◌}
use lib.ListN.{length}
use borrow.Author.Tests.{le-leb, lt-leb}
use Rattle.print.specs.Put.Laws.{put_as, put_fits, fits_put, not_put}
use Rattle.schedule.specs.Report.{line_room}
use Rattle.set_text.specs.Text.{sets_room}
use Rattle.set_text.proofs.Text.Laws.{room_is, line_broken, line_names}
use Rattle.set_text.proofs.sets_text.Goals as goal

pub returns-then-out-lt-SETS_ROOM : goal.returns-then-out-lt-SETS_ROOM
returns-then-out-lt-SETS_ROOM c = let out = c.args.out.now in
    let both = not_put sets_room out 0 _ (lt-leb (0 + sets_room) (length out) (omega (arith, room_is, c.if-out-lt-SETS_ROOM.true))) in
    record { value = both.0; out_after = both.1 }

pub returns-in_default : goal.returns-in_default
returns-in_default c = let out = c.args.out.now in
    let room : sets_room ≤ length out = omega (arith, room_is, c.if-out-lt-SETS_ROOM.false) in
    let both = fits_put sets_room (le-leb (0 + sets_room) (length out) (omega (arith, room)))
    (put_as (line_broken c.args.schedule.now c.net_line.ensures c.in_default.is)
    (put_fits line_room (omega (arith, room, room_is)) (c.refused_line.ensures.value, c.refused_line.ensures.out_after))) in
    record { value = both.0; out_after = both.1 }

pub put_net-requires : goal.put_net-requires
put_net-requires c = omega (arith, room_is, c.if-out-lt-SETS_ROOM.false)

pub returns : goal.returns
returns c = let out = c.args.out.now in
    let both = fits_put sets_room (le-leb (0 + sets_room) (length out) (omega (arith, room_is, c.if-out-lt-SETS_ROOM.false)))
    (put_as (line_names c.args.schedule.now c.net_line.ensures c.in-Both.is)
    c.put_net.ensures) in record { value = both.0; out_after = both.1 }

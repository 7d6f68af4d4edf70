-- `report::waiting_line` meets its contract: where there is room for any line, the word, a number and the line feed.
use native.Mathlib.Omega.{arith}
use borrow.Author.Tests.{leb-true}
use Prim.Native.Nat.{◌+◌}
use mathlib.Core.Path.{sym, ◌∙◌}
use lib.ListN.{length}
use Rattle.print.specs.Decimal.{field_text}
use Rattle.print.specs.Decimal.Laws.{most_field}
use Rattle.print.specs.Put.Laws.{put_fits, put_next, step, fits_put, not_put}
use Rattle.schedule.specs.Report.{line_room, feed, waiting_text, waiting_line}
use Rattle.report.proofs.waiting_line.Goals as goal

pub returns-then-not-has_room : goal.returns-then-not-has_room
returns-then-not-has_room c = let p = not_put line_room _ _ _ (sym c.has_room.ensures ∙ c.if-not-has_room.true) in
    record { value = p.0; out_after = p.1; upper_bound = omega arith }

pub returns : goal.returns
unfolding waiting_line
returns c = let a = c.args in
    let fits = sym c.has_room.ensures ∙ c.if-not-has_room.false in
    let room = leb-true (a.at + line_room) (length a.out.now) fits in
    let t = field_text waiting_text a.count in
    let few = most_field waiting_text a.count in
    let A = put_fits (length t) (omega (arith, few, room))
    (c.put_field-end.ensures.value, c.put_field-end.ensures.out_after) in
    let P = put_next (length feed) feed A (omega (arith, few, room, A.past)) (c.put_text.ensures.value, c.put_text.ensures.out_after) in
    let p = fits_put line_room fits P in record { value = p.0; out_after = p.1; upper_bound = omega (arith, A.past, few, step feed A P) }

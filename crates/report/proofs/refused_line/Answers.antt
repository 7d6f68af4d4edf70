-- `report::refused_line` meets its contract: where there is room for any line, two words with a number behind each, and the line feed.
use native.Mathlib.Omega.{arith}
use borrow.Author.Tests.{leb-true}
use Prim.Native.Nat.{◌+◌}
use mathlib.Core.Path.{sym, ◌∙◌}
use lib.ListN.{length}
use Rattle.print.specs.Decimal.{field_text}
use Rattle.print.specs.Decimal.Laws.{most_field}
use Rattle.print.specs.Put.Laws.{put_fits, put_next, step, fits_put, not_put}
use Rattle.schedule.specs.Report.{line_room, feed, refused_text, line_text, refused_line}
use Rattle.report.proofs.refused_line.Goals as goal

pub returns-then-not-has_room : goal.returns-then-not-has_room
returns-then-not-has_room c = let p = not_put line_room _ _ _ (sym c.has_room.ensures ∙ c.if-not-has_room.true) in
    record { value = p.0; out_after = p.1; upper_bound = omega arith }

pub returns : goal.returns
unfolding refused_line
returns c = let a = c.args in
    let fits = sym c.has_room.ensures ∙ c.if-not-has_room.false in
    let room = leb-true (a.at + line_room) (length a.out.now) fits in
    let t = field_text refused_text a.number in
    let u = field_text line_text a.line in
    let few = most_field refused_text a.number in
    let most = most_field line_text a.line in
    let A = put_fits (length t) (omega (arith, few, room)) (c.put_field-first.ensures.value, c.put_field-first.ensures.out_after) in
    let B = put_next (length u) u A (omega (arith, few, most, room, A.past)) (
      c.put_field-second.ensures.value,
      c.put_field-second.ensures.out_after,
    ) in
    let far = step u A B in
    let P = put_next (length feed) feed B (omega (arith, few, most, far, room, A.past))
    (c.put_text.ensures.value, c.put_text.ensures.out_after) in
    let p = fits_put line_room fits P in
    record { value = p.0; out_after = p.1; upper_bound = omega (arith, A.past, few, most, far, step feed B P) }

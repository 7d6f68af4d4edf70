-- `base_line::base_line` meets its contract: where there is room for any line, the word, the number, the state and the line feed.
use native.Mathlib.Omega.{arith}
use borrow.Author.Tests.{leb-true}
use Prim.Native.Nat.{◌+◌}
use mathlib.Core.Path.{sym, ◌∙◌}
use lib.ListN.{length}
use Rattle.print.specs.Decimal.{field_text}
use Rattle.print.specs.Decimal.Laws.{few_field}
use Rattle.print.specs.Put.Laws.{put_fits, put_next, step, fits_put, not_put}
use Rattle.schedule.specs.Report.{line_room, state_room, number_digits, feed, base_text, state_text, base_line}
use Rattle.base_line.proofs.base_line.Goals as goal

pub returns-then-not-has_room : goal.returns-then-not-has_room
returns-then-not-has_room c = let p = not_put line_room _ _ _ (sym c.has_room.ensures ∙ c.if-not-has_room.true) in
    record { value = p.0; out_after = p.1; upper_bound = omega arith }

pub returns : goal.returns
unfolding base_line
returns c = let a = c.args in
    let fits = sym c.has_room.ensures ∙ c.if-not-has_room.false in
    let room = leb-true (a.at + line_room) (length a.out.now) fits in
    let t = field_text base_text a.number in
    let few = few_field number_digits base_text a.number (omega arith) (omega arith) in
    let A = put_fits (length t) (omega (arith, few, room)) (c.put_field-first.ensures.value, c.put_field-first.ensures.out_after) in
    let B = put_next state_room (state_text a.base) A (omega (arith, few, room, A.past)) (
      c.put_state-second.ensures.value,
      c.put_state-second.ensures.out_after,
    ) in
    let P = put_next (length feed) feed B (omega (arith, few, c.put_state-second.ensures.upper_bound, room, A.past))
    (c.put_text.ensures.value, c.put_text.ensures.out_after) in
    let p = fits_put line_room fits P in
    record {
      value = p.0;
      out_after = p.1;
      upper_bound =
          omega (arith, A.past, few, c.put_state-second.ensures.upper_bound, step feed B P);
    }

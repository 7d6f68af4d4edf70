-- `print::put_text` meets its contract. Invariant: the first j bytes are put.
use native.Mathlib.Omega.{arith}
use Prim.Native.Nat.{◌+◌, ◌-◌, ◌≤◌}
use mathlib.Core.Path.{◌≡◌, refl, sym, ◌∙◌}
use mathlib.Core.Bool.{true}
use borrow.Author.Tests.{leb-true}
use lib.Dec.{leb}
use lib.ListN.{length, length-set}
use Rattle.print.specs.Put.Laws.{put_more, put_all, fits_put, not_put, put_begin}
use Rattle.print.proofs.put_text.Goals as goal

pub returns-then-not-has_room : goal.returns-then-not-has_room
returns-then-not-has_room c = let both = not_put _ _ _ _ (sym c.has_room.ensures ∙ c.if-not-has_room.true) in
    record { value = both.0; out_after = both.1 }

pub loop-j-init : goal.loop-j-init
loop-j-init c = (omega arith, (refl, put_begin _ _ c.args.text.now))

pub overflow_add-out : goal.overflow_add-out
overflow_add-out c = let fits : leb (c.args.at + length c.args.text.now) (length c.args.out.now) ≡ true =
    sym c.has_room.ensures ∙ c.if-not-has_room.false in
    let room : c.args.at + length c.args.text.now ≤ length c.args.out.now = leb-true _ _ fits in
    omega (arith, room)

pub bounds-out-at : goal.bounds-out-at
bounds-out-at c = let fits : leb (c.args.at + length c.args.text.now) (length c.args.out.now) ≡ true =
    sym c.has_room.ensures ∙ c.if-not-has_room.false in
    let room : c.args.at + length c.args.text.now ≤ length c.args.out.now = leb-true _ _ fits in
    omega (arith, room)

pub loop-j-preserved : goal.loop-j-preserved
loop-j-preserved c = (
  omega arith,
  (
    simp length-set c.loop-j.invariant.1.0,
    put_more _ _ c.loop-j-test.true c.loop-j.invariant.1.1,
  ),
)

pub overflow_add-result : goal.overflow_add-result
overflow_add-result c = let fits : leb (c.args.at + length c.args.text.now) (length c.args.out.now) ≡ true =
    sym c.has_room.ensures ∙ c.if-not-has_room.false in
    let room : c.args.at + length c.args.text.now ≤ length c.args.out.now = leb-true _ _ fits in
    omega (arith, room)

pub shape_of-out : goal.shape_of-out
shape_of-out c = c.loop-j.invariant.1.0

pub returns : goal.returns
returns c = let both = let fits : leb (c.args.at + length c.args.text.now) (length c.args.out.now) ≡ true =
    sym c.has_room.ensures ∙ c.if-not-has_room.false in
    fits_put _ fits (put_all _ _ c.loop-j-test.false c.loop-j.invariant.1.1) in record { value = both.0; out_after = both.1 }

-- `reader::read` meets its contract: a burst that passes the check holds a whole frame, whose trailer is read off. Its back distance is the
-- length of that frame.
use Rattle.reader.specs.Answers.{reading_of}
use Prim.Native.Nat.{ℕ, ◌-◌}
use mathlib.Core.Path.{sym, ap, ◌∙◌}
use native.Mathlib.Omega.{arith}
use borrow.Author.Tests.{eq-eqb, ne_eqb}
use lib.ListN.{length}
use Rattle.frame.specs.Reading.Laws.{Framed}
use Rattle.frame.proofs.Reading.Laws.{read_passed}
use Rattle.frame.specs.Reading.{kind_byte, count_byte, body_start, from_end}
use Rattle.reader.specs.declared.Reading.TheVariants.{Message, Refused}
use Rattle.lists.specs.Choice.Laws.{chosen_yes, chosen_no}
use Rattle.reader.proofs.read.Goals as goal

pub returns-then-refusal-ne0 : goal.returns-then-refusal-ne0
unfolding reading_of
returns-then-refusal-ne0 c = let r = c.check-refusal.ensures in chosen_no _ (ne_eqb _ 0 (λ z. c.if-refusal-ne0.true (r ∙ z))) (ap Refused r)

pub overflow_sub-kind : goal.overflow_sub-kind
overflow_sub-kind c = let framed : Framed c.args.burst.now =
    read_passed c.args.n _ (sym c.check-refusal.ensures ∙ c.if-refusal-ne0.false) in
    omega (arith, framed)

pub bounds-burst-len : goal.bounds-burst-len
bounds-burst-len c = let framed : Framed c.args.burst.now = read_passed c.args.n _ (sym c.check-refusal.ensures ∙ c.if-refusal-ne0.false) in
    omega (arith, framed)

pub overflow_sub-count : goal.overflow_sub-count
overflow_sub-count c = let framed : Framed c.args.burst.now =
    read_passed c.args.n _ (sym c.check-refusal.ensures ∙ c.if-refusal-ne0.false) in
    omega (arith, framed)

pub bounds-burst-len-2 : goal.bounds-burst-len-2
bounds-burst-len-2 c = let framed : Framed c.args.burst.now =
    read_passed c.args.n _ (sym c.check-refusal.ensures ∙ c.if-refusal-ne0.false) in
    omega (arith, framed)

pub overflow_sub-start : goal.overflow_sub-start
unfolding count_byte from_end
overflow_sub-start c = let framed : Framed c.args.burst.now =
    read_passed c.args.n _ (sym c.check-refusal.ensures ∙ c.if-refusal-ne0.false) in
    omega (arith, framed, c.frame_bytes.ensures)

pub returns : goal.returns
unfolding reading_of kind_byte count_byte body_start from_end
returns c = let framed : Framed c.args.burst.now = read_passed c.args.n _ (sym c.check-refusal.ensures ∙ c.if-refusal-ne0.false) in
    let s = c.args.burst.now in
    chosen_yes _ (eq-eqb _ 0 (sym c.check-refusal.ensures ∙ c.if-refusal-ne0.false))
    (ap (λ (b : ℕ). Message (kind_byte s) (count_byte s) (length s - b))
    (c.frame_bytes.ensures ∙ sym framed.back))

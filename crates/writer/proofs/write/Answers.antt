-- `writer::write` meets its contract. Where no number is given, the frame fits.
use mathlib.Core.Path.{refl, sym, ap, ◌∙◌}
use native.Mathlib.Omega.{arith}
use borrow.Author.Tests.{eq-eqb, ne_eqb}
use Rattle.lists.specs.Choice.Laws.{chosen_yes, chosen_no}
use Rattle.frame.specs.Slots.{size_of}
use Rattle.framing.specs.Framing.Laws.{put_length_lem, put_output_lem}
use Rattle.writer.specs.declared.Written.TheVariants.{Frame, Refused}
use Rattle.writer.specs.Writing.{written_of, write_output}
use Rattle.writer.specs.Writing.Laws.{write_passed}
use Rattle.writer.proofs.write.Goals as goal

pub returns-then-refusal-ne0 : goal.returns-then-refusal-ne0
unfolding written_of write_output
returns-then-refusal-ne0 c =
    let r = c.write_refusal-refusal.ensures in
    let e = ne_eqb _ 0 (λ z. c.if-refusal-ne0.true (r ∙ z)) in
    (chosen_no _ e (ap Refused r), chosen_no _ e refl)

pub overflow_cast-n : goal.overflow_cast-n
overflow_cast-n c =
    let a = c.args in
    omega (arith, (write_passed a.n a.kind a.ids.now _ (sym c.write_refusal-refusal.ensures ∙ c.if-refusal-ne0.false)).few)

pub returns : goal.returns
unfolding written_of write_output
returns c =
    let a = c.args in
    let none = sym c.write_refusal-refusal.ensures ∙ c.if-refusal-ne0.false in
    let e = eq-eqb _ 0 none in
    let fit = (write_passed a.n a.kind a.ids.now _ none).fit in (
      chosen_yes _ e (ap Frame (c.put.ensures.0 ∙ ap size_of (put_length_lem _ _ _ _ fit))),
      chosen_yes _ e (c.put.ensures.1 ∙ put_output_lem _ _ _ _ fit),
    )

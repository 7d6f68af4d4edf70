-- `header_forms::id_line` meets its contract: the word, two numbers behind it, and the base that the line is to name.
use mathlib.Core.Path.{sym, ◌∙◌}
use borrow.Author.Tests.{eq-eqb, ne_eqb}
use Rattle.lists.specs.Choice.{choose}
use Rattle.lines.specs.Lines.{id_line}
use Rattle.header_forms.proofs.id_line.Goals as goal

pub returns-in_default : goal.returns-in_default
unfolding id_line
returns-in_default c = rw (sym c.word_at.ensures ∙ c.in_default.is)

pub returns-in_default-two_at : goal.returns-in_default-two_at
unfolding id_line
returns-in_default-two_at c =
    rw (
      sym c.word_at.ensures ∙ c.in-Past.is,
      sym c.two_at.ensures ∙ c.in_default-two_at.is,
    )

pub returns-then-base-b : goal.returns-then-base-b
unfolding id_line choose
returns-then-base-b c =
    rw (
      sym c.word_at.ensures
          ∙ c.in-Past.is,
      sym c.two_at.ensures ∙ c.in-Both.is,
      eq-eqb _ _ c.if-base-b.true,
    )

pub returns-else-base-b : goal.returns-else-base-b
unfolding id_line choose
returns-else-base-b c =
    rw (
      sym c.word_at.ensures
          ∙ c.in-Past.is,
      sym c.two_at.ensures ∙ c.in-Both.is,
      ne_eqb _ _ c.if-base-b.false,
    )

-- `faulty_form::faulty_line` meets its contract: the word, two numbers behind it, and the tests of the two bases.
use mathlib.Core.Path.{sym, ◌∙◌}
use Rattle.lists.specs.Choice.{choose}
use Rattle.lines.specs.Lines.{faulty_line}
use Rattle.faulty_form.proofs.faulty_line.Goals as goal

pub returns-in_default : goal.returns-in_default
unfolding faulty_line
returns-in_default c = rw (sym c.word_at.ensures ∙ c.in_default.is)

pub returns-in_default-two_at : goal.returns-in_default-two_at
unfolding faulty_line
returns-in_default-two_at c =
    rw (
      sym c.word_at.ensures ∙ c.in-Past.is,
      sym c.two_at.ensures ∙ c.in_default-two_at.is,
    )

pub returns-then-ascending_bases : goal.returns-then-ascending_bases
unfolding faulty_line choose
returns-then-ascending_bases c =
    rw (
      sym c.word_at.ensures
          ∙ c.in-Past.is,
      sym c.two_at.ensures ∙ c.in-Both.is,
      sym c.ascending_bases.ensures ∙ c.if-ascending_bases.true,
    )

pub returns-else-ascending_bases : goal.returns-else-ascending_bases
unfolding faulty_line choose
returns-else-ascending_bases c =
    rw (
      sym c.word_at.ensures
          ∙ c.in-Past.is,
      sym c.two_at.ensures ∙ c.in-Both.is,
      sym c.ascending_bases.ensures ∙ c.if-ascending_bases.false,
    )

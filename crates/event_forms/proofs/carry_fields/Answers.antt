-- `event_forms::carry_fields` meets its contract: the three numbers, and the tests of the bases and of the broadcast's number.
use native.Mathlib.Omega.{arith}
use mathlib.Core.Path.{sym, ◌∙◌}
use borrow.Author.Tests.{lt-leb, le-leb}
use Rattle.lists.specs.Choice.{choose, and}
use Rattle.lines.specs.Lines.{carry_fields}
use Rattle.lines.specs.Lines.Laws.{two_most}
use Rattle.event_forms.proofs.carry_fields.Goals as goal

pub returns-in_default : goal.returns-in_default
unfolding carry_fields
returns-in_default c = rw (sym c.two_at.ensures ∙ c.in_default.is)

pub returns-in_default-field_at : goal.returns-in_default-field_at
unfolding carry_fields
returns-in_default-field_at c =
    rw (
      sym c.two_at.ensures ∙ c.in-Both.is,
      sym c.field_at.ensures ∙ c.in_default-field_at.is,
    )

pub returns-then-k-lt1 : goal.returns-then-k-lt1
unfolding carry_fields choose and
returns-then-k-lt1 c =
    rw (
      sym c.two_at.ensures
          ∙ c.in-Both.is,
      sym c.field_at.ensures ∙ c.in-Value.is,
      lt-leb 1 _ c.if-k-lt1.true,
    )

pub overflow_cast-result : goal.overflow_cast-result
overflow_cast-result c =
    omega (
      arith,
      (two_most c.args.n
          _ _ (sym c.two_bases.ensures ∙ c.if-two_bases.true)).0,
    )

pub overflow_cast-result-then-two_bases : goal.overflow_cast-result-then-two_bases
overflow_cast-result-then-two_bases c =
    omega (
      arith,
      (two_most c.args.n
          _ _ (sym c.two_bases.ensures ∙ c.if-two_bases.true)).1,
    )

pub returns-then-two_bases : goal.returns-then-two_bases
unfolding carry_fields choose and
returns-then-two_bases c =
    rw (
      sym c.two_at.ensures
          ∙ c.in-Both.is,
      sym c.field_at.ensures ∙ c.in-Value.is,
      le-leb 1 _ c.if-k-lt1.false,
      sym c.two_bases.ensures ∙ c.if-two_bases.true,
    )

pub returns-else-two_bases : goal.returns-else-two_bases
unfolding carry_fields choose and
returns-else-two_bases c =
    rw (
      sym c.two_at.ensures
          ∙ c.in-Both.is,
      sym c.field_at.ensures ∙ c.in-Value.is,
      le-leb 1 _ c.if-k-lt1.false,
      sym c.two_bases.ensures ∙ c.if-two_bases.false,
    )

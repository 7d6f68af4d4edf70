-- `event_forms::forge_fields` meets its contract: the two numbers, the bytes, and the test of the bases.
use native.Mathlib.Omega.{arith}
use mathlib.Core.Path.{sym, ◌∙◌}
use Rattle.lists.specs.Choice.{choose}
use Rattle.lines.specs.Lines.{forge_fields}
use Rattle.lines.specs.Lines.Laws.{two_most}
use Rattle.event_forms.proofs.forge_fields.Goals as goal

pub returns-in_default : goal.returns-in_default
unfolding forge_fields
returns-in_default c = rw (sym c.two_at.ensures ∙ c.in_default.is)

pub returns-in_default-hex_at : goal.returns-in_default-hex_at
unfolding forge_fields
returns-in_default-hex_at c =
    rw (
      sym c.two_at.ensures ∙ c.in-Both.is,
      sym c.hex_at.ensures ∙ c.in_default-hex_at.is,
    )

pub overflow_cast-result : goal.overflow_cast-result
overflow_cast-result c =
    omega (
      arith,
      (two_most c.args.n
          _ _ (sym c.two_bases.ensures ∙ c.if-two_bases.true)).0,
    )

pub overflow_cast-result-then-two_bases : goal.overflow_cast-result-then-two_bases
overflow_cast-result-then-two_bases c =
    omega (
      arith,
      (two_most c.args.n
          _ _ (sym c.two_bases.ensures ∙ c.if-two_bases.true)).1,
    )

pub returns-then-two_bases : goal.returns-then-two_bases
unfolding forge_fields choose
returns-then-two_bases c =
    rw (
      sym c.two_at.ensures
          ∙ c.in-Both.is,
      sym c.hex_at.ensures ∙ c.in-Bytes.is,
      sym c.two_bases.ensures ∙ c.if-two_bases.true,
    )

pub returns-else-two_bases : goal.returns-else-two_bases
unfolding forge_fields choose
returns-else-two_bases c =
    rw (
      sym c.two_at.ensures
          ∙ c.in-Both.is,
      sym c.hex_at.ensures ∙ c.in-Bytes.is,
      sym c.two_bases.ensures ∙ c.if-two_bases.false,
    )

-- `event_forms::start_fields` meets its contract: the number, and whether it is a base.
use native.Mathlib.Omega.{arith}
use mathlib.Core.Path.{sym, ◌∙◌}
use Rattle.lists.specs.Choice.{choose}
use Rattle.lines.specs.Lines.{start_fields}
use Rattle.lines.specs.Lines.Laws.{net_base_range}
use Rattle.event_forms.proofs.start_fields.Goals as goal

pub returns-in_default : goal.returns-in_default
unfolding start_fields
returns-in_default c = rw (sym c.field_at.ensures ∙ c.in_default.is)

pub overflow_cast-result : goal.overflow_cast-result
overflow_cast-result c =
    omega (
      arith,
      (net_base_range c.args.n
          _ (sym c.is_base.ensures ∙ c.if-is_base.true)).1,
    )

pub returns-then-is_base : goal.returns-then-is_base
unfolding start_fields choose
returns-then-is_base c =
    rw (
      sym c.field_at.ensures ∙ c.in-Value.is,
      sym c.is_base.ensures ∙ c.if-is_base.true,
    )

pub returns-else-is_base : goal.returns-else-is_base
unfolding start_fields choose
returns-else-is_base c =
    rw (
      sym c.field_at.ensures ∙ c.in-Value.is,
      sym c.is_base.ensures ∙ c.if-is_base.false,
    )

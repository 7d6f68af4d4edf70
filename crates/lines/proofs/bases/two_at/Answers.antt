-- `lines::bases::two_at` meets its contract: what each field answered.
use mathlib.Core.Path.{sym, ◌∙◌}
use Rattle.lines.specs.Lines.{two_at}
use Rattle.lines.proofs.bases.two_at.Goals as goal

pub returns-in_default : goal.returns-in_default
unfolding two_at
returns-in_default c = rw (sym c.field_at.ensures ∙ c.in_default.is)

pub returns-in_default-field_at : goal.returns-in_default-field_at
unfolding two_at
returns-in_default-field_at c =
    rw (
      sym c.field_at.ensures ∙ c.in-Value.is,
      sym c.field_at-2.ensures ∙ c.in_default-field_at.is,
    )

pub returns : goal.returns
unfolding two_at
returns c =
    rw (
      sym c.field_at.ensures
          ∙ c.in-Value.is,
      sym c.field_at-2.ensures ∙ c.in-Value-field_at.is,
    )

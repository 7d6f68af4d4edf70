-- `text::number::field_at` meets its contract: the number, and the byte behind it.
use mathlib.Core.Path.{sym, ◌∙◌}
use Rattle.text.specs.Number.{field_at, closed}
use Rattle.text.specs.Number.Laws.{closed_end, closed_here, closed_other}
use Rattle.text.proofs.number.field_at.Goals as goal

pub returns-in_default : goal.returns-in_default
unfolding field_at closed
returns-in_default c = rw (sym c.number_at.ensures ∙ c.in_default.is)

pub returns-then-s-next : goal.returns-then-s-next
unfolding field_at
returns-then-s-next c =
    rw (sym c.number_at.ensures ∙ c.in-Value.is) (sym (closed_end _ _ _ _ c.if-s-next.true))

pub returns-then-s-next-2 : goal.returns-then-s-next-2
unfolding field_at
returns-then-s-next-2 c =
    rw (sym c.number_at.ensures ∙ c.in-Value.is) (sym (closed_here _ _ _ _ c.if-s-next.false c.if-s-next-2.true))

pub returns-else-s-next-2 : goal.returns-else-s-next-2
unfolding field_at
returns-else-s-next-2 c =
    rw (sym c.number_at.ensures ∙ c.in-Value.is) (sym (closed_other _ _ _ _ c.if-s-next-2.false))

-- `lines::bases::two_bases` meets its contract: each test before the next.
use mathlib.Core.Path.{sym, ◌∙◌}
use Rattle.lists.specs.Choice.{and}
use Rattle.lines.specs.Lines.{two_bases}
use Rattle.lines.proofs.bases.two_bases.Goals as goal

pub returns-then-is_base-2 : goal.returns-then-is_base-2
unfolding two_bases and
returns-then-is_base-2 c = rw (
  sym c.is_base.ensures ∙ c.if-is_base.true,
  sym c.is_base-then-is_base.ensures ∙ c.if-is_base-2.true,
)

pub returns-else-is_base-2 : goal.returns-else-is_base-2
unfolding two_bases and
returns-else-is_base-2 c = rw (
  sym c.is_base.ensures ∙ c.if-is_base.true,
  sym c.is_base-then-is_base.ensures ∙ c.if-is_base-2.false,
)

pub returns-else-is_base : goal.returns-else-is_base
unfolding two_bases and
returns-else-is_base c = rw (sym c.is_base.ensures ∙ c.if-is_base.false)

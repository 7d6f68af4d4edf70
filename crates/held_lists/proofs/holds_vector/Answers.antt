-- `held_lists::holds_vector` meets its contract: the kind first, then the list.
use mathlib.Core.Path.{◌∙◌}
use borrow.Author.Tests.{eq-eqb, ne_eqb}
use Rattle.protocol.specs.Links.{holds_vector}
use Rattle.lists.specs.Choice.{and}
use Rattle.held_lists.proofs.holds_vector.Goals as goal

pub returns-then-link-kind : goal.returns-then-link-kind
unfolding holds_vector and
returns-then-link-kind c = simp (ne_eqb _ _ c.if-link-kind.true)

pub returns : goal.returns
unfolding holds_vector and
returns c = c.same.ensures ∙ simp (eq-eqb _ _ c.if-link-kind.false)

-- `faulty_links::is_from` meets its contract: one end, then the other.
use mathlib.Core.Path.{refl}
use borrow.Author.Tests.{eq-eqb, ne_eqb}
use Rattle.lists.specs.Choice.Laws.{and_fails, and_goes_on}
use Rattle.faulty_links.proofs.is_from.Goals as goal

pub returns-then-pair-a : goal.returns-then-pair-a
returns-then-pair-a c = and_fails _ (ne_eqb _ _ c.if-pair-a.true)

pub returns : goal.returns
returns c = and_goes_on (eq-eqb _ _ c.if-pair-a.false) refl

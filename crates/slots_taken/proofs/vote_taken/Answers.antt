-- `slots_taken::vote_taken` meets its contract.
use native.Mathlib.Omega.{arith}
use borrow.Author.Tests.{eq-eqb, ne_eqb}
use Rattle.lists.specs.Choice.Laws.{chosen_yes, chosen_no}
use mathlib.Core.Path.{refl}
use Rattle.slots_taken.specs.Taken.{vote_by}
use Rattle.slots_taken.proofs.vote_taken.Goals as goal

pub returns-then-sent-eq0 : goal.returns-then-sent-eq0
unfolding vote_by
returns-then-sent-eq0 c = (chosen_yes _ (eq-eqb _ 0 c.if-sent-eq0.true) refl, omega arith)

pub returns : goal.returns
unfolding vote_by
returns c = (chosen_no _ (ne_eqb _ 0 c.if-sent-eq0.false) c.list_slots.ensures.0, c.list_slots.ensures.1)

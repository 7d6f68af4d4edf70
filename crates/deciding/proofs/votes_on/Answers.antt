-- `deciding::votes_on` meets its contract: only a Correct-Final is looked at.
use Rattle.deciding.specs.Deciding.Laws.{votes_on}
use Rattle.lists.specs.Choice.Laws.{and_fails, and_goes_on}
use borrow.Author.Tests.{eq-eqb, ne_eqb}
use Rattle.deciding.proofs.votes_on.Goals as goal

pub returns-then-kind-ne-CORRECT_FINAL : goal.returns-then-kind-ne-CORRECT_FINAL
unfolding votes_on
returns-then-kind-ne-CORRECT_FINAL c = and_fails _ (ne_eqb _ 3 c.if-kind-ne-CORRECT_FINAL.true)

pub returns : goal.returns
unfolding votes_on
returns c = and_goes_on (eq-eqb _ 3 c.if-kind-ne-CORRECT_FINAL.false) c.is_vote.ensures

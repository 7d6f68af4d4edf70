-- `checks::is_vote` meets its contract: whether one was sent, and then the count.
use Prim.Native.Nat.{ℕ}
use mathlib.Core.Path.{ap}
use borrow.Author.Tests.{eq-eqb, ne_eqb}
use lib.Dec.{leb}
use Rattle.protocol.specs.Steps.{votes}
use Rattle.lists.specs.Choice.Laws.{and_fails, and_goes_on}
use Rattle.checks.proofs.is_vote.Goals as goal

pub returns-then-base-ne0 : goal.returns-then-base-ne0
unfolding votes
returns-then-base-ne0 c = and_fails _ (ne_eqb _ _ c.if-base-ne0.true)

pub returns : goal.returns
unfolding votes
returns c = and_goes_on (eq-eqb _ _ c.if-base-ne0.false) (ap (λ (k : ℕ). leb 2 k) c.correct_count.ensures.0)

-- `limits::own_refusal` meets its contract: each return is the definition at the test that led there.
use borrow.Author.Tests.{eq-eqb, ne_eqb}
use Rattle.limits.specs.Refusals.{own_refusal}
use Rattle.lists.specs.Choice.{choose}
use Rattle.limits.proofs.own_refusal.Goals as goal

pub returns-then-own-eq0 : goal.returns-then-own-eq0
unfolding own_refusal choose
returns-then-own-eq0 c = simp (eq-eqb _ _ c.if-own-eq0.true)

pub returns : goal.returns
unfolding own_refusal choose
returns c = simp (ne_eqb _ _ c.if-own-eq0.false)

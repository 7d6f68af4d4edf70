-- `deciding::echo_of` meets its contract.
use Rattle.deciding.specs.Deciding.Laws.{echo_of}
use Rattle.lists.specs.Choice.Laws.{choose_yes, choose_no}
use mathlib.Core.Path.{sym}
use borrow.Author.Tests.{eq-eqb, ne_eqb}
use Rattle.deciding.proofs.echo_of.Goals as goal

pub returns-then-kind-eq-ANNOUNCE : goal.returns-then-kind-eq-ANNOUNCE
unfolding echo_of
returns-then-kind-eq-ANNOUNCE c = sym (choose_yes _ _ (eq-eqb _ 1 c.if-kind-eq-ANNOUNCE.true))

pub returns : goal.returns
unfolding echo_of
returns c = sym (choose_no _ _ (ne_eqb _ 1 c.if-kind-eq-ANNOUNCE.false))

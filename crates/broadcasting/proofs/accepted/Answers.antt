-- `broadcasting::accepted` meets its contract.
use Rattle.broadcasting.specs.Broadcasting.{accepted_with}
use Rattle.lists.specs.Choice.Laws.{chosen_yes, chosen_no}
use borrow.Author.Tests.{eq-eqb, ne_eqb}
use mathlib.Core.Path.{refl}
use Rattle.broadcasting.proofs.accepted.Goals as goal

pub returns-then-relayed-eq0 : goal.returns-then-relayed-eq0
unfolding accepted_with
returns-then-relayed-eq0 c = chosen_yes _ (eq-eqb _ 0 c.if-relayed-eq0.true) refl

pub returns : goal.returns
unfolding accepted_with
returns c = chosen_no _ (ne_eqb _ 0 c.if-relayed-eq0.false) refl

-- `numbering::link_to` meets its contract.
use mathlib.Core.Path.{refl}
use native.Mathlib.Omega.{arith}
use borrow.Author.Tests.{lt-ltb, le-ltb}
use Rattle.lists.specs.Choice.Laws.{chosen_yes, chosen_no}
use Rattle.protocol.specs.Numbering.{link_to}
use Rattle.numbering.proofs.link_to.Goals as goal

pub returns-then-a-b : goal.returns-then-a-b
unfolding link_to
returns-then-a-b c = chosen_yes _ (lt-ltb _ _ c.if-a-b.true) refl

pub returns-then-near-lt1 : goal.returns-then-near-lt1
unfolding link_to
returns-then-near-lt1 c = chosen_no _ (le-ltb _ _ c.if-a-b.false) (omega (arith, c.if-near-lt1.true))

pub returns : goal.returns
unfolding link_to
returns c = chosen_no _ (le-ltb _ _ c.if-a-b.false) refl

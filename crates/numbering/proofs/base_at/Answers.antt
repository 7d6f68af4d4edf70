-- `numbering::base_at` meets its contract.
use mathlib.Core.Path.{refl}
use borrow.Author.Tests.{lt-ltb, le-ltb}
use Rattle.lists.specs.Choice.Laws.{chosen_yes, chosen_no}
use Rattle.protocol.specs.Numbering.{base_at}
use Rattle.numbering.proofs.base_at.Goals as goal

pub returns-then-k-b : goal.returns-then-k-b
unfolding base_at
returns-then-k-b c = chosen_yes _ (lt-ltb _ _ c.if-k-b.true) refl

pub returns : goal.returns
unfolding base_at
returns c = chosen_no _ (le-ltb _ _ c.if-k-b.false) refl

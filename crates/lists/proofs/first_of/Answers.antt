-- `lists::first_of` meets its contract, by whether the first check gives a number.
use mathlib.Core.Path.{sym}
use Rattle.lists.specs.Choice.Laws.{first_none, first_given}
use Rattle.lists.proofs.first_of.Goals as goal

pub returns-then-a-eq0 : goal.returns-then-a-eq0
returns-then-a-eq0 c = sym (first_none _ c.if-a-eq0.true)

pub returns : goal.returns
returns c = sym (first_given _ c.if-a-eq0.false)

-- `deciding::sent_with` meets its contract.
use Rattle.lists.specs.Choice.Laws.{choose_yes, choose_no}
use mathlib.Core.Path.{sym}
use Rattle.deciding.proofs.sent_with.Goals as goal

pub returns-then-vote : goal.returns-then-vote
returns-then-vote c = sym (choose_yes _ _ c.if-vote.true)

pub returns : goal.returns
returns c = sym (choose_no _ _ c.if-vote.false)

-- `first_message::behind_start` meets its contract.
use Rattle.first_message.specs.FirstMessage.{behind_start}
use mathlib.Core.Path.{sym, ap}
use Rattle.first_message.proofs.behind_start.Goals as goal

pub returns-in-Accepted : goal.returns-in-Accepted
unfolding behind_start
returns-in-Accepted c = let a = c.args in sym (ap (behind_start a.start) c.in-Accepted.is)

pub returns-in-Discarded : goal.returns-in-Discarded
unfolding behind_start
returns-in-Discarded c = let a = c.args in sym (ap (behind_start a.start) c.in-Discarded.is)

pub returns-in-Refused : goal.returns-in-Refused
unfolding behind_start
returns-in-Refused c = let a = c.args in sym (ap (behind_start a.start) c.in-Refused.is)

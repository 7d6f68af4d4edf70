-- `change::only_state` meets its contract: the link at the first place is set as it was.
use mathlib.Core.Path.{refl}
use Rattle.change.specs.Change.Laws.{changed_state}
use Rattle.change.proofs.only_state.Goals as goal

pub returns : goal.returns
returns c = let a = c.args in (refl, changed_state a.base a.state a.outcome)

-- `deciding::runs_on` meets its contract.
use Rattle.deciding.specs.Deciding.Laws.{runs_with}
use mathlib.Core.Path.{refl}
use Rattle.deciding.proofs.runs_on.Goals as goal

pub returns : goal.returns
unfolding runs_with
returns c = refl

-- `change::changed_base` meets its contract: a place that there is not leaves the links as they are.
use mathlib.Core.Path.{refl}
use native.Mathlib.Omega.{arith}
use Rattle.protocol.proofs.Sizes.{base_sized}
use Rattle.change.specs.Change.{changed_base}
use Rattle.change.specs.Change.Laws.{changed_nowhere}
use Rattle.change.proofs.changed_base.Goals as goal

pub returns-then-place-ge-MOST_LINKS : goal.returns-then-place-ge-MOST_LINKS
returns-then-place-ge-MOST_LINKS c =
    changed_nowhere c.args.base c.args.change (omega (arith, (base_sized c.args.base _ c.well_formed.0).links))

pub returns : goal.returns
unfolding changed_base
returns c = refl

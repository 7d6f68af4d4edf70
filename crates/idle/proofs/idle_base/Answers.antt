-- `idle::idle_base` meets its contract: field by field.
use mathlib.Core.Path.{refl}
use Rattle.protocol.specs.Sound.{idle_base}
use Rattle.idle.proofs.idle_base.Goals as goal

pub returns : goal.returns
unfolding idle_base
returns c = refl

-- `held::has_announce` meets its contract: the test is the definition's.
use mathlib.Core.Path.{refl}
use Rattle.protocol.specs.Links.{announces}
use Rattle.held.proofs.has_announce.Goals as goal

pub returns : goal.returns
unfolding announces
returns c = refl

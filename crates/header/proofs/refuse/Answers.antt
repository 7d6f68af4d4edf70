-- `header::refuse` meets its contract: the number alone changes.
use mathlib.Core.Path.{refl}
use Rattle.net.specs.Header.{begun_net}
use Rattle.stored_walk.specs.State.{refused_net}
use Rattle.header.proofs.refuse.Goals as goal

pub returns : goal.returns
unfolding begun_net refused_net
returns c = refl

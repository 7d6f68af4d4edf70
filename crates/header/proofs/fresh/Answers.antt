-- `header::fresh` meets its contract: the net that it gives is the one made.
use Rattle.net.specs.Header.Begun.{begun_made}
use Rattle.header.proofs.fresh.Goals as goal

pub returns : goal.returns
returns c = rw c.no_faulty.ensures (begun_made _ _ _ _)

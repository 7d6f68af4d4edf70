-- `net::made::begun_net` meets its contract: a node for each identifier.
use Rattle.net.specs.Header.{begun_net}
use Rattle.net.proofs.made.begun_net.Goals as goal

pub returns : goal.returns
unfolding begun_net
returns c = rw c.idle_nodes.ensures

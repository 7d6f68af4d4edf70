-- `net::nodes::idle_node` meets its contract: an empty node with an idle record stored.
use Rattle.node.specs.Node.{with_base}
use Rattle.net.specs.Header.{idle_node}
use Rattle.net.proofs.nodes.idle_node.Goals as goal

pub returns : goal.returns
unfolding idle_node with_base
returns c = rw (c.idle_base-base.ensures, c.empty_node-node.ensures)

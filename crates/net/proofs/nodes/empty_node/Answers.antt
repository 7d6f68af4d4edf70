-- `net::nodes::empty_node` meets its contract: each array is filled.
use Rattle.net.specs.Abstraction.{empty_node}
use Rattle.net.proofs.nodes.empty_node.Goals as goal

pub returns : goal.returns
unfolding empty_node
returns c = rw c.idle_base-base.ensures

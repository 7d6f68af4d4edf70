-- A burst arrives at a base of the program's net.
use Rattle.std.specs.Prelude.{ℕ, List, eqb}
use Rattle.lists.specs.Choice.{choose}
use Rattle.limits.specs.Limits.{output_room}
use Rattle.protocol.specs.Steps.{arrival}
use Rattle.protocol.specs.Net.{call_refusal}
use Rattle.node.specs.declared.Node.{Node}
use Rattle.node.specs.Node.{marked, node_after}
pub mod Laws

-- the base after it, marked as a's k-th broadcast, or as it was where the call turned it down
unfoldable pub heard_burst : Node → ℕ → List ℕ → ℕ → ℕ → Node
heard_burst u link bytes a k =
    let d = arrival u.base link bytes output_room in choose (eqb (call_refusal d.answer) 0) (marked (node_after u d) a k) u

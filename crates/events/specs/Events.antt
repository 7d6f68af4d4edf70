-- What an event does to the program's net. The call, and the number by which the event is turned down, are those of protocol's Net, for
-- the net that the program's net stands for.
use Rattle.std.specs.Prelude.{ℕ, ◌-◌, List, [], eqb, get_or}
use Rattle.lists.specs.Choice.{choose, first}
use Rattle.limits.specs.Limits.{output_room}
use Rattle.protocol.specs.Numbering.{link_to}
use Rattle.protocol.specs.Steps.{Done, arrival}
use Rattle.protocol.specs.Net.{Event, starts, carry, forge, at, call, call_refusal, event_refusal, refusal}
use Rattle.protocol.specs.Net as Nets
use Rattle.node.specs.declared.Node.{Node}
use Rattle.node.specs.Node.{log_of, marked}
use Rattle.node.specs.Node as Nodes
use Rattle.net.specs.declared.StoredNet.{StoredNet}
use Rattle.carry_refusals.specs.Carry.{seen_net, carry_refusal}
use Rattle.events.specs.declared.Reached.{Reached}
use Rattle.net.specs.Abstraction.{node_at, with_node, net_of, faulty_of}
pub mod Laws

-- "a carry joins the carries made"
unfoldable pub marks : Event → Node → Node
marks (starts b room) v = v
marks (carry a b k room) v = marked v a k
marks (forge a b bytes room) v = v

-- "An event that is turned down, by 16 to 18 or by the base's call, changes nothing"
unfoldable pub after : StoredNet → Event → StoredNet
after w e = choose (eqb (refusal (faulty_of w) (net_of w) e) 0)
    (with_node w (at e) (marks e (Nodes.node_after (node_at w (at e)) (call (net_of w) e)))) w

-- the net after an event, beside the number by which a line of a schedule is refused: a burst that the base's call turns down
-- leaves the schedule running
pub record Moved : Type 0 where
  pub refusal : ℕ
  pub net : StoredNet

unfoldable pub moved : StoredNet → Event → Moved
moved w e = record { refusal = event_refusal (faulty_of w) (net_of w) e; net = after w e }

-- ---- parts
-- a carry, of the sender and the receiver: the receiver as it leaves it
unfoldable pub carry_call : Node → Node → ℕ → ℕ → ℕ → Done
carry_call v u a b k = arrival u.base (link_to b a) (get_or (log_of v) (k - 1) []) output_room

unfoldable pub carried_to : Node → Node → List Nets.Pair → ℕ → ℕ → ℕ → Reached
carried_to v u faulty a b k =
    let n = carry_refusal v u faulty a b k in
    let d = carry_call v u a b k in
    record { refusal = n; node = choose (eqb (first n (call_refusal d.answer)) 0) (marked (Nodes.node_after u d) a k) u }

-- a forgery: a call that is turned down leaves the receiver as it was
unfoldable pub forged_to : Node → List Nets.Pair → ℕ → ℕ → List ℕ → Reached
forged_to u faulty a b bytes =
    let n = event_refusal faulty (seen_net u u) (forge a b bytes output_room) in
    record { refusal = n; node = choose (eqb n 0) (Nodes.node_after u (arrival u.base (link_to b a) bytes output_room)) u }

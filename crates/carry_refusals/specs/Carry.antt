-- The numbers of a carry, of its sender and its receiver alone.
use Rattle.std.specs.Prelude.{ℕ, List}
use Rattle.limits.specs.Limits.{output_room}
use Rattle.protocol.specs.Net.{carry, event_refusal}
use Rattle.protocol.specs.Net as Nets
use Rattle.node.specs.declared.Node.{Node}
use Rattle.node.specs.Node.{log_of, heard_by}
pub mod Laws

-- what an event's numbers look at: what the sender has broadcast, and what the receiver has heard
abbrev pub seen_net : Node → Node → Nets.Net
seen_net v u = record { base = λ x. u.base; log = λ x. log_of v; carried = λ x y j. heard_by u x j }

-- numbers 16 and 17, of the sender and the receiver
unfoldable pub carry_refusal : Node → Node → List Nets.Pair → ℕ → ℕ → ℕ → ℕ
carry_refusal v u faulty a b k = event_refusal faulty (seen_net v u) (carry a b k output_room)

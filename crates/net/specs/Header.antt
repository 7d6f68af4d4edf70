-- A net at the beginning ("The replay program", document 01): what `net n t`, `id b v` and `faulty a b` do to it, and the net that a
-- header gives.
use Rattle.std.specs.Prelude.{ℕ, map, replicate}
use Rattle.limits.specs.Limits.{most_bases}
use Rattle.protocol.specs.Sound.{idle_base}
use Rattle.node.specs.declared.Node.{Node}
use Rattle.node.specs.Node.{with_base}
use Rattle.faulty_links.specs.Faulty.{no_faulty, marked_faulty}
use Rattle.net.specs.declared.Header.{Header}
use Rattle.net.specs.declared.StoredNet.{StoredNet}
use Rattle.net.specs.Abstraction.{empty_node, node_at, with_node}
pub mod Filled
pub mod Begun

-- ---- of the net
-- `net n t`; the next line begins at a position and has a number
unfoldable pub made_net : ℕ → ℕ → ℕ → ℕ → StoredNet
made_net n t at line = record {
  n = n;
  t = t;
  faulty = no_faulty;
  nodes = replicate most_bases (empty_node n t);
  at = at;
  line = line;
  refusal = 0;
}

-- `id b v`: base b is idle, and v is its own identifier
unfoldable pub named_net : StoredNet → ℕ → ℕ → StoredNet
named_net w b v = with_node w b (with_base (node_at w b) (idle_base w.n w.t v))

-- `faulty a b`
abbrev pub marked_net : StoredNet → ℕ → ℕ → StoredNet
marked_net w a b = record {
  n = w.n;
  t = w.t;
  faulty = marked_faulty w.faulty a b;
  nodes = w.nodes;
  at = w.at;
  line = w.line;
  refusal = w.refusal;
}

-- ---- the net that a header gives
unfoldable pub idle_node : ℕ → ℕ → ℕ → Node
idle_node n t v = with_base (empty_node n t) (idle_base n t v)

unfoldable pub begun_net : Header → StoredNet
begun_net h = record {
  n = h.n;
  t = h.t;
  faulty = h.faulty;
  nodes = map (idle_node h.n h.t) h.ids;
  at = h.at;
  line = h.line;
  refusal = h.refusal;
}

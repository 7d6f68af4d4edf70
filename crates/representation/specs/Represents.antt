-- The program's net stands for a net of document 01 ("The net over a whole history"), from the beginning and through every event of
-- a history. So what the agreement theorem says of that net it says of what the program keeps.
use Rattle.std.specs.Prelude.{ℕ, ◌<◌, ◌≡◌, List, length, get_or}
use Rattle.limits.specs.Limits.{most_bases}
use Rattle.protocol.specs.Net.{Pair, Event, run}
use Rattle.protocol.specs.Net as Nets
use Rattle.protocol.specs.Agreement.{Setting, Fresh, AllProper}
use Rattle.node.specs.Node.Memory.{SizedNode}
use Rattle.net.specs.declared.StoredNet.{StoredNet}
use Rattle.net.specs.Abstraction.{no_node, net_of, faulty_of}
use Rattle.faulty_links.specs.Faulty.{faulty_room}
pub mod Nodes
pub mod Marks
pub mod Tables
pub mod Steps
pub mod Histories
pub mod Beginning

-- what a net in memory always has: its arrays' lengths
pub record SizedNet (w : StoredNet) : Type 0 where
  pub nodes : length w.nodes ≡ most_bases
  pub each : (i : ℕ) → i < most_bases → SizedNode (get_or w.nodes i no_node)
  pub pairs : length w.faulty.pairs ≡ faulty_room

-- the program's net w stands for the net W of n bases, with these links faulty
pub record Represents (w : StoredNet) (n t : ℕ) (faulty : List Pair) (W : Nets.Net) : Type 0 where
  pub record_n : w.n ≡ n
  pub record_t : w.t ≡ t
  pub links : faulty_of w ≡ faulty
  pub abstracts : net_of w ≡ W
  pub sized : SizedNet w

-- W is the net after some history
pub record History (n t : ℕ) (faulty : List Pair) (W : Nets.Net) : Type 0 where
  pub beginning : Nets.Net
  pub events : List Event
  pub setting : Setting n t faulty
  pub fresh : Fresh n t beginning
  pub proper : AllProper n events
  pub now_is : W ≡ run faulty beginning events

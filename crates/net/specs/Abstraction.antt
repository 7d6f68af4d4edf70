-- Which net of document 01 ("The net over a whole history") the program's net stands for. Bases are numbered from 1.
use Rattle.std.specs.Prelude.{ℕ, ◌-◌, min, List, [], get_or, set, replicate}
use Rattle.limits.specs.Limits.{most_bases}
use Rattle.lists.specs.Choice.{choose}
use Rattle.protocol.specs.declared.Base.{Base}
use Rattle.protocol.specs.Sound.{idle_base}
use Rattle.protocol.specs.Net as Nets
use Rattle.node.specs.declared.Node.{Node}
use Rattle.node.specs.Node.{most_broadcasts, mark_room, in_range, empty_frame, log_of, heard_by}
use Rattle.faulty_links.specs.Faulty.{pairs_of}
use Rattle.net.specs.declared.StoredNet.{StoredNet}

-- ---- the bases
-- an idle base without an identifier, with no broadcast and no carry
unfoldable pub empty_node : ℕ → ℕ → Node
empty_node n t = record { base = idle_base n t 0; count = 0; frames = replicate most_broadcasts empty_frame; heard = replicate mark_room 0 }

-- what is read past the end of an array
abbrev pub no_base : Base
no_base = record { n = 0; t = 0; state = 0; sent = 0; own = 0; final_list = []; links = [] }

abbrev pub no_node : Node
no_node = record { base = no_base; count = 0; frames = []; heard = [] }

-- base b; for a number that no base has, one that is as at the beginning
unfoldable pub node_at : StoredNet → ℕ → Node
node_at w b = choose (in_range b most_bases) (get_or w.nodes (b - 1) no_node) (empty_node w.n w.t)

-- other nodes in their place
abbrev pub with_nodes : StoredNet → List Node → StoredNet
with_nodes w l = record { n = w.n; t = w.t; faulty = w.faulty; nodes = l; at = w.at; line = w.line; refusal = w.refusal }

unfoldable pub with_node : StoredNet → ℕ → Node → StoredNet
with_node w b v = choose (in_range b most_bases) (with_nodes w (set w.nodes (b - 1) v)) w

-- "The net's state is one record a base, each base's broadcasts, numbered from 1 in the order written, and the carries made."
unfoldable pub net_of : StoredNet → Nets.Net
net_of w = record { base = λ b. (node_at w b).base; log = λ b. log_of (node_at w b); carried = λ a b k. heard_by (node_at w b) a k }

-- a net has n bases, and room for so many
unfoldable pub size : StoredNet → ℕ
size w = min w.n most_bases

-- ---- the faulty links
unfoldable pub faulty_of : StoredNet → List Nets.Pair
faulty_of w = pairs_of w.faulty

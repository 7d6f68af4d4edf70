-- What a node in memory always has: its arrays' lengths. Every change of a node here keeps them.
use Rattle.std.specs.Prelude.{◌≡◌, length}
use Rattle.node.specs.declared.Node.{Node}
use Rattle.node.specs.Node.{most_broadcasts, mark_room}

pub record SizedNode (v : Node) : Type 0 where
  pub frames : length v.frames ≡ most_broadcasts
  pub heard : length v.heard ≡ mark_room

-- What owning a node or a frame tells of its arrays: in memory they have the lengths of their types.
use mathlib.Core.Path.{◌≡◌}
use mathlib.Core.List.{List}
use lib.ListN.{length, length-map}
use denote.Laws.{Is}
use mir.Val.{Val}
use Rattle.limits.specs.Limits.{longest_frame}
use Rattle.protocol.specs.Record.Memory.{Sized}
use Rattle.protocol.proofs.Sizes.{base_sized}
use Rattle.node.specs.declared.Frame.{Frame}
use Rattle.node.specs.declared.Node.{Node}
use Rattle.node.specs.Node.Memory.{SizedNode}
use Rattle.node.specs.contracts.Frame as F
use Rattle.node.specs.contracts.Node as N

pub frame_sized : (f : Frame) (vs : List Val) → Is F.the_row f vs → length f.bytes ≡ longest_frame
frame_sized f vs p = p.1.1.1.0.1.0.1

pub node_base : (v : Node) (vs : List Val) → Is N.the_row v vs → Sized v.base
node_base v vs p = base_sized v.base _ p.1.1.0

pub node_sized : (v : Node) (vs : List Val) → Is N.the_row v vs → SizedNode v
node_sized v vs p =
    record { frames = p.1.1.1.1.0.1.0.1; heard = p.1.1.1.1.1.0.1.0.1 }

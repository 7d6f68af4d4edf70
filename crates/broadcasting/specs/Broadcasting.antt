-- The frames that a call broadcasts, as bytes, by what an output has room for; and the answers with their lengths and slots.
use Rattle.std.specs.Prelude.{ℕ, ◌-◌, Bool, List, [], eqb, leb, length, take}
use Rattle.limits.specs.Limits.{most_bases}
use Rattle.lists.specs.Choice.{choose, and}
use Rattle.frame.specs.declared.size.FrameSize.{FrameSize}
use Rattle.frame.specs.Message.{expected}
use Rattle.frame.specs.Encoding.{frame_of}
use Rattle.frame_room.specs.Room.{frame_fits}
use Rattle.protocol.specs.declared.Outcome.{Outcome}
use Rattle.protocol.specs.declared.Outcome.TheVariants.{Accepted}
pub mod Laws

-- the frame of a kind and the first identifiers of an array, where there is room for it; else nothing
unfoldable pub frame_in : ℕ → ℕ → List ℕ → ℕ → List ℕ
frame_in n kind ids room =
    choose (and (leb (expected kind n) most_bases) (frame_fits n kind (expected kind n) room))
    (frame_of kind (take (expected kind n) ids))
    []

-- the Correct-Final of a base that stops, behind the frame of the first kind
unfoldable pub last_frame : ℕ → ℕ → List ℕ → Bool → List ℕ → ℕ → List ℕ
last_frame n first ids stops list room = choose stops (frame_in n 3 list (room - length (frame_in n first ids room))) []

-- accepted, with the sizes of at most two frames, zero for none: one that is relayed, and the base's own Correct-Final
unfoldable pub accepted_with : FrameSize → FrameSize → Outcome
accepted_with x y =
    choose (eqb x.length 0)
    (Accepted y.length 0 0 y.slots x.slots)
    (Accepted x.length y.length 0 y.slots x.slots)

-- Two frames of the same identifiers at the front of an output, one after the other: the second fits in the room that the first leaves.
use Rattle.std.specs.Prelude.{Bool, List, ◌++◌, ℕ, ◌-◌, length}
use Rattle.lists.specs.Choice.{choose, and}
use Rattle.frame.specs.Slots.{size_of}
use Rattle.frame.specs.Message.{length_of}
use Rattle.frame.specs.Encoding.{frame_of, over}
use Rattle.frame_room.specs.Room.{frame_fits}
use Rattle.two_frames.specs.declared.TwoSizes.{TwoSizes}
pub mod Laws

unfoldable pub two_fit : ℕ → ℕ → ℕ → ℕ → ℕ → Bool
two_fit n kind next count room = and (frame_fits n kind count room) (frame_fits n next count (room - length_of kind n))

unfoldable pub two_sizes : ℕ → ℕ → ℕ → ℕ → ℕ → TwoSizes
two_sizes n kind next count room =
    choose (two_fit n kind next count room)
    (record { front = size_of (length_of kind n); next = size_of (length_of next n) })
    (record { front = size_of 0; next = size_of 0 })

unfoldable pub two_output : ℕ → ℕ → ℕ → List ℕ → List ℕ → List ℕ
two_output n kind next ids output =
    choose (two_fit n kind next (length ids) (length output))
    (over (frame_of kind ids ++ frame_of next ids) output)
    output

-- One frame at the front of an output (document 01, "Frames, read from the end").
use Rattle.std.specs.Prelude.{List, ℕ, length}
use Rattle.lists.specs.Choice.{choose}
use Rattle.frame.specs.Message.{length_of}
use Rattle.frame.specs.Encoding.{frame_of, over}
use Rattle.frame_room.specs.Room.{frame_fits}
pub mod Laws

unfoldable pub put_length : ℕ → ℕ → ℕ → ℕ → ℕ
put_length n kind count room = choose (frame_fits n kind count room) (length_of kind n) 0

unfoldable pub put_output : ℕ → ℕ → List ℕ → List ℕ → List ℕ
put_output n kind ids output = choose (frame_fits n kind (length ids) (length output)) (over (frame_of kind ids) output) output

-- A frame that fits is written.
use Rattle.std.specs.Prelude.{◌≡◌, true, List, ℕ, length}
use Rattle.lists.specs.Choice.Laws.{choose_yes}
use Rattle.frame.specs.Encoding.{frame_of, over}
use Rattle.frame.specs.Message.{length_of}
use Rattle.frame_room.specs.Room.{frame_fits}
use Rattle.framing.specs.Framing.{put_length, put_output}

pub put_length_lem : (n kind count room : ℕ) → frame_fits n kind count room ≡ true → put_length n kind count room ≡ length_of kind n
unfolding put_length
put_length_lem n kind count room e = choose_yes (length_of kind n) 0 e

pub put_output_lem : (n kind : ℕ) (ids output : List ℕ) → frame_fits n kind (length ids) (length output) ≡ true
    → put_output n kind ids output ≡ over (frame_of kind ids) output
unfolding put_output
put_output_lem n kind ids output e = choose_yes (over (frame_of kind ids) output) output e

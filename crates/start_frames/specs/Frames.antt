-- The frames of a start, as bytes, by what an output has room for.
use Rattle.std.specs.Prelude.{ℕ, ◌+◌, ◌*◌, List, [], ◌∷◌, ◌++◌, leb}
use Rattle.limits.specs.Limits.{frame_bytes, frame_slots}
use Rattle.lists.specs.Choice.{choose}
use Rattle.frame.specs.Encoding.{frame_of}
use Rattle.start_frames.specs.declared.StartSizes.{StartSizes}
pub mod Laws

-- "Announce and Verify of its own identifier, in that order", where there is room for both; else nothing
unfoldable pub start_frames : ℕ → ℕ → List ℕ
start_frames own room = choose (leb (2 * frame_bytes 1) room) (frame_of 1 (own ∷ []) ++ frame_of 2 (own ∷ [])) []

-- the length of each, and the slots of both
unfoldable pub start_length : ℕ → ℕ
start_length room = choose (leb (2 * frame_bytes 1) room) (frame_bytes 1) 0

unfoldable pub start_sizes : ℕ → StartSizes
start_sizes room = record {
  announce = start_length room;
  verify = start_length room;
  slots = frame_slots (start_length room) + frame_slots (start_length room);
}

-- where there is room for both
abbrev pub written_start : StartSizes
written_start = record { announce = frame_bytes 1; verify = frame_bytes 1; slots = 2 }

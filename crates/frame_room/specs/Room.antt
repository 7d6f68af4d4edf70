-- Whether a frame fits in the room of an output.
use Rattle.std.specs.Prelude.{Bool, ℕ, eqb, leb}
use Rattle.lists.specs.Choice.{and}
use Rattle.frame.specs.Message.{length_of}
use Rattle.frame.specs.Reading.{kind_refusal}
pub mod Laws

-- a kind that there is, as many identifiers as it holds, and room for the frame
unfoldable pub frame_fits : ℕ → ℕ → ℕ → ℕ → Bool
frame_fits n kind count room = and (eqb (kind_refusal n kind count) 0) (leb (length_of kind n) room)

-- What the reader's calls answer (document 01, "Frames, read from the end").
use Rattle.std.specs.Prelude.{List, [], ℕ, eqb}
use Rattle.lists.specs.Choice.{choose}
use Rattle.frame.specs.Reading.{kind_byte, count_byte, body_start, body_of, read_refusal}
use Rattle.reader.specs.declared.Reading.{Reading}
use Rattle.reader.specs.declared.Reading.TheVariants.{Message, Refused}
pub mod Laws
pub mod Place

-- "The reader hands back the body as that very stretch of the burst; for a refused burst it gives an empty stretch": where it starts, and
-- its bytes
unfoldable pub stretch_start : ℕ → List ℕ → ℕ
stretch_start n s = choose (eqb (read_refusal n s) 0) (body_start s) 0

unfoldable pub stretch : ℕ → List ℕ → List ℕ
stretch n s = choose (eqb (read_refusal n s) 0) (body_of s) []

-- the reading as an enum: the message's kind, the count of its identifiers and the place of its body, or the number
unfoldable pub reading_of : ℕ → List ℕ → Reading
reading_of n s = choose (eqb (read_refusal n s) 0) (Message (kind_byte s) (count_byte s) (body_start s)) (Refused (read_refusal n s))

-- a reading tied to its number, 0 for a message, and to the message's kind
unfoldable pub number_in : Reading → ℕ
number_in (Message kind count start) = 0
number_in (Refused r) = r

unfoldable pub kind_in : Reading → ℕ
kind_in (Message kind count start) = kind
kind_in (Refused r) = 0

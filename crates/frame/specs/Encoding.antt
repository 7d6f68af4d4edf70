-- The bytes of a message (document 01, "Frames, read from the end"): "The body comes first, then a trailer of four bytes: kind (1 byte),
-- count of identifiers (1 byte), back distance (2 bytes). Numbers go high byte first." "Identifiers take four bytes." "Frames are written
-- without preamble."
use Rattle.std.specs.Prelude.{List, [], ◌∷◌, ◌++◌, ℕ, ◌+◌, ◌/◌, ◌%◌, length, drop}
use Rattle.limits.specs.Limits.{frame_bytes}
use Rattle.frame.specs.Message.{Message, kind_of, ids_of}

unfoldable pub two_bytes : ℕ → List ℕ
two_bytes x = x / 256 % 256 ∷ (x % 256 ∷ [])

unfoldable pub four_bytes : ℕ → List ℕ
four_bytes x = x / 16777216 % 256 ∷ (x / 65536 % 256 ∷ (x / 256 % 256 ∷ (x % 256 ∷ [])))

unfoldable pub body : List ℕ → List ℕ
body [] = []
body (x ∷ xs) = four_bytes x ++ body xs

-- "The back distance counts bytes from the frame's end to the body's start, always 4 × count + 4."
unfoldable pub trailer : ℕ → ℕ → List ℕ
trailer kind count = kind ∷ (count ∷ two_bytes (frame_bytes count))

unfoldable pub frame_of : ℕ → List ℕ → List ℕ
frame_of kind ids = body ids ++ trailer kind (length ids)

unfoldable pub encode : Message → List ℕ
encode m = frame_of (kind_of m) (ids_of m)

-- an output after bytes are written to its front: "Output bytes past them are unchanged."
unfoldable pub over : List ℕ → List ℕ → List ℕ
over bytes output = bytes ++ drop (length bytes) output

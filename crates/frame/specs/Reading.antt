-- What a burst says (document 01, "Frames, read from the end"), and numbers 7 to 12, by which it is turned down.
use Rattle.std.specs.Prelude.{ℕ, zero, suc, ◌+◌, ◌*◌, ◌-◌, not, List, [], ◌∷◌, eqb, ltb, length, take, drop, get_or}
use Rattle.limits.specs.Limits.{frame_bytes, shortest_burst, longest_burst}
use Rattle.limits.specs.Refusals.{net_refusal}
use Rattle.lists.specs.Choice.{choose, or, first}
use Rattle.lists.specs.Lists.{nonzero, ascending}
use Rattle.frame.specs.Message.{Message, announce, verify, correct_final, verify_final, known, expected}
pub mod Laws

-- ---- the trailer, "read from the end"
-- the k-th byte from the end
unfoldable pub from_end : ℕ → List ℕ → ℕ
from_end k s = get_or s (length s - k) 0

unfoldable pub kind_byte : List ℕ → ℕ
kind_byte s = from_end 4 s

unfoldable pub count_byte : List ℕ → ℕ
count_byte s = from_end 3 s

unfoldable pub back_distance : List ℕ → ℕ
back_distance s = from_end 2 s * 256 + from_end 1 s

-- "The back distance counts bytes from the frame's end to the body's start"
unfoldable pub body_start : List ℕ → ℕ
body_start s = length s - back_distance s

unfoldable pub body_of : List ℕ → List ℕ
body_of s = take (4 * count_byte s) (drop (body_start s) s)

-- "A burst may have preamble before the frame; those bytes are skipped."
unfoldable pub preamble : List ℕ → List ℕ
preamble s = take (body_start s) s

-- ---- the identifiers of a body, four bytes each, high byte first
unfoldable pub identifier : List ℕ → ℕ
identifier s = get_or s 0 0 * 16777216 + get_or s 1 0 * 65536 + get_or s 2 0 * 256 + get_or s 3 0

unfoldable pub identifiers : ℕ → List ℕ → List ℕ
identifiers zero s = []
identifiers (suc k) s = identifier s ∷ identifiers k (drop 4 s)

unfoldable pub ids_in : List ℕ → List ℕ
ids_in s = identifiers (count_byte s) (body_of s)

-- ---- numbers by which a burst is turned down, in checking order; 0 for none. Number 1 comes before them.
-- 7. The burst is shorter than 8 or longer than 132 bytes.
unfoldable pub length_refusal : List ℕ → ℕ
length_refusal s = choose (or (ltb (length s) shortest_burst) (ltb longest_burst (length s))) 7 0

-- 8. The kind is not 1 to 4.
-- 9. The count is not 1 for kinds 1 and 2, or not n for 3 and 4.
unfoldable pub kind_refusal : ℕ → ℕ → ℕ → ℕ
kind_refusal n kind count =
    choose (not (known kind)) 8
    (choose (not (eqb count (expected kind n))) 9
    0)

-- 10. The back distance is not 4 × count + 4, or exceeds the burst.
unfoldable pub distance_refusal : List ℕ → ℕ
distance_refusal s = choose (or (not (eqb (back_distance s) (frame_bytes (count_byte s)))) (ltb (length s) (back_distance s))) 10 0

-- 7 to 10, of the burst's length and its trailer
unfoldable pub trailer_refusal : ℕ → List ℕ → ℕ
trailer_refusal n s =
    first (length_refusal s)
    (first (kind_refusal n (kind_byte s) (count_byte s))
    (distance_refusal s))

-- 11. An identifier in the body is zero.
-- 12. A list is not strictly ascending.
unfoldable pub list_refusal : List ℕ → ℕ
list_refusal ids =
    choose (not (nonzero ids)) 11
    (choose (not (ascending ids)) 12
    0)

unfoldable pub burst_refusal : ℕ → List ℕ → ℕ
burst_refusal n s = first (trailer_refusal n s) (list_refusal (ids_in s))

unfoldable pub read_refusal : ℕ → List ℕ → ℕ
read_refusal n s = first (net_refusal n) (burst_refusal n s)

-- ---- what a burst that is not turned down says
unfoldable pub message : ℕ → List ℕ → Message
message kind ids =
    choose (eqb kind 1) (announce (get_or ids 0 0))
    (choose (eqb kind 2) (verify (get_or ids 0 0))
    (choose (eqb kind 3) (correct_final ids)
    (verify_final ids)))

unfoldable pub message_of : List ℕ → Message
message_of s = message (kind_byte s) (ids_in s)

-- What the writer's call answers and leaves in the output (document 01, "Frames, read from the end" and "Turning calls down").
use Rattle.std.specs.Prelude.{List, ℕ, eqb, ltb, length}
use Rattle.lists.specs.Choice.{choose, first}
use Rattle.frame.specs.Slots.{size_of}
use Rattle.frame.specs.Message.{length_of}
use Rattle.frame.specs.Encoding.{frame_of, over}
use Rattle.frame.specs.Reading.{kind_refusal, list_refusal}
use Rattle.limits.specs.Refusals.{net_refusal}
use Rattle.writer.specs.declared.Written.{Written}
use Rattle.writer.specs.declared.Written.TheVariants.{Frame, Refused}
pub mod Laws
pub mod Theorems

-- ---- a message by its kind and identifiers, or the number by which it is turned down; 0 for none
-- 1. n is not 2 to 16.
-- 6. The output is shorter than the frame, and so than 136 bytes.
-- 8 and 9, of the kind and the count.
-- 11 and 12, of the identifiers.
unfoldable pub write_refusal : ℕ → ℕ → List ℕ → ℕ → ℕ
write_refusal n kind ids room =
    first (net_refusal n)
    (choose (ltb room (length_of kind n)) 6
    (first (kind_refusal n kind (length ids))
    (list_refusal ids)))

unfoldable pub written_of : ℕ → ℕ → List ℕ → ℕ → Written
written_of n kind ids room =
    choose (eqb (write_refusal n kind ids room) 0)
    (Frame (size_of (length_of kind n)))
    (Refused (write_refusal n kind ids room))

unfoldable pub write_output : ℕ → ℕ → List ℕ → List ℕ → List ℕ
write_output n kind ids output = choose (eqb (write_refusal n kind ids (length output)) 0) (over (frame_of kind ids) output) output

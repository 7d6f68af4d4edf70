-- The numbers by which a message that was read is turned down, in checking order (document 01, "Turning calls down").
use Rattle.std.specs.Prelude.{ℕ, List, take, drop}
use Rattle.lists.specs.Choice.{choose, first}
use Rattle.lists.specs.Lists.{zeros}
use Rattle.frame.specs.Message.{expected}
use Rattle.frame.specs.Reading.{kind_refusal, list_refusal}
pub mod Laws

-- 8, of the kind; 9, of an identifier behind as many as the kind holds; 11 and 12, of the list
unfoldable pub message_refusal : ℕ → ℕ → List ℕ → ℕ
message_refusal n kind ids =
    first (kind_refusal n kind (expected kind n))
    (choose (zeros (drop (expected kind n) ids)) (list_refusal (take (expected kind n) ids)) 9)

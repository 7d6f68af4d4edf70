-- A message that was read, as the code hands it on: its kind, and its identifiers in an array.
use Rattle.std.specs.Prelude.{ℕ, ◌≡◌, true, List, eqb, take}
use Rattle.limits.specs.Limits.{most_bases}
use Rattle.lists.specs.Choice.{choose}
use Rattle.lists.specs.Lists.{pad_to}
use Rattle.frame.specs.Message.{Message, known, expected}
use Rattle.frame.specs.Reading.{message}
pub mod Laws

-- an array that holds n identifiers, zeros behind
abbrev pub HoldsFirst : ℕ → List ℕ → Type 0
HoldsFirst n v = v ≡ pad_to most_bases (take n v)

unfoldable pub message_in : ℕ → ℕ → List ℕ → Message
message_in n kind ids = message kind (take (expected kind n) ids)

-- a kind that there is, and as many identifiers as it holds
pub record MessageIn (n kind : ℕ) (ids : List ℕ) : Type 0 where
  pub known : known kind ≡ true
  pub holds : HoldsFirst (expected kind n) ids

-- what is done for each kind, and for one that there is not
unfoldable pub by_kind : {A : Type 0} → ℕ → A → A → A → A → A → A
by_kind kind announce verify correct_final verify_final none =
    choose (eqb kind 1) announce
    (choose (eqb kind 2) verify
    (choose (eqb kind 3) correct_final
    (choose (eqb kind 4) verify_final
    none)))

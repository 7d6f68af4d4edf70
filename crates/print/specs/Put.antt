-- A text put at a place of an output.
use Rattle.std.specs.Prelude.{ℕ, ◌+◌, ◌≡◌, List, leb, length}
use Rattle.std.proofs.lemmas.List.Edits.{sets}
use Rattle.lists.specs.Choice.{choose}
pub mod Laws

-- the place behind a text, if there is room for so many bytes; with less room nothing is written
unfoldable pub room_end : ℕ → List ℕ → ℕ → List ℕ → ℕ
room_end room out at text = choose (leb (at + room) (length out)) (at + length text) at

-- the output with the text at its place, and the rest as it was
unfoldable pub room_output : ℕ → List ℕ → ℕ → List ℕ → List ℕ
room_output room out at text = choose (leb (at + room) (length out)) (sets out at text) out

-- the same of a text that asks for no more room than its own bytes take
abbrev pub text_end : List ℕ → ℕ → List ℕ → ℕ
text_end out at text = room_end (length text) out at text

abbrev pub text_output : List ℕ → ℕ → List ℕ → List ℕ
text_output out at text = room_output (length text) out at text

-- that a text was put at a place: `after` is the output and `end` the place behind it
pub record Put (out : List ℕ) (at : ℕ) (text after : List ℕ) (end : ℕ) : Type 0 where
  pub past : end ≡ at + length text
  pub is : after ≡ sets out at text

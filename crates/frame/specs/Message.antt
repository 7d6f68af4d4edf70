-- A message (document 01, "Frames, read from the end"): its kind and its identifiers.
use Rattle.std.specs.Prelude.{◌≡◌, Bool, true, List, [], ◌∷◌, ℕ, ◌^◌, eqb, length}
use Rattle.lists.specs.Choice.{choose, or}
use Rattle.lists.specs.Lists.{nonzero, ascending, Below}
use Rattle.limits.specs.Limits.{frame_bytes}
use Rattle.frame.specs.declared.kind.Shape.{Shape}
use Rattle.frame.specs.declared.kind.Shape.TheVariants.{Known, Unknown}

-- "Kinds: 1 Announce-ID, 2 Verify-ID, 3 Correct-Final, 4 Verify-Final."
pub data Message : Type 0 where
  announce : ℕ → Message
  verify : ℕ → Message
  correct_final : List ℕ → Message
  verify_final : List ℕ → Message

unfoldable pub kind_of : Message → ℕ
kind_of (announce g) = 1
kind_of (verify g) = 2
kind_of (correct_final v) = 3
kind_of (verify_final v) = 4

unfoldable pub ids_of : Message → List ℕ
ids_of (announce g) = g ∷ []
ids_of (verify g) = g ∷ []
ids_of (correct_final v) = v
ids_of (verify_final v) = v

-- "Kinds 1 and 2 hold one identifier; 3 and 4 hold n"
unfoldable pub holds_one : ℕ → Bool
holds_one kind = or (eqb kind 1) (eqb kind 2)

unfoldable pub holds_all : ℕ → Bool
holds_all kind = or (eqb kind 3) (eqb kind 4)

-- number 8 asks whether "the kind is not 1 to 4"
unfoldable pub known : ℕ → Bool
known kind = or (holds_one kind) (holds_all kind)

-- the count of identifiers that a known kind holds in a net of n bases
unfoldable pub expected : ℕ → ℕ → ℕ
expected kind n = choose (holds_one kind) 1 n

-- the count of identifiers and the frame's length that a kind has in a net of n bases
unfoldable pub shape_of : ℕ → ℕ → Shape
shape_of kind n = choose (known kind) (Known (expected kind n) (frame_bytes (expected kind n))) Unknown

-- the frame's length alone; 0 for a kind that there is not
unfoldable pub length_of : ℕ → ℕ → ℕ
length_of kind n = choose (known kind) (frame_bytes (expected kind n)) 0

-- A valid message: "Kinds 1 and 2 hold one identifier; 3 and 4 hold n, strictly ascending." "An identifier is a 32-bit number above zero."
pub record Valid (n : ℕ) (m : Message) : Type 0 where
  pub count : length (ids_of m) ≡ expected (kind_of m) n
  pub above_zero : nonzero (ids_of m) ≡ true
  pub ascends : ascending (ids_of m) ≡ true
  pub words : Below (2 ^ 32) (ids_of m)

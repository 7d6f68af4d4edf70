-- "0 to 132 bytes, two lower-case digits each" (document 01, "The replay program"), up to the line feed that ends the line.
use Rattle.std.specs.Prelude.{ℕ, zero, suc, ◌+◌, ◌*◌, ◌-◌, Bool, List, [], ◌∷◌, eqb, ltb, leb, drop}
use Rattle.limits.specs.Limits.{longest_forgery}
use Rattle.lists.specs.Choice.{choose, and, or}
use Rattle.hexadecimal.specs.declared.Hex.{Hex}
use Rattle.hexadecimal.specs.declared.Hex.TheVariants.{Bytes, Bad}
pub mod Laws
pub mod Range

-- the bytes `0` to `9` and `a` to `f`
unfoldable pub is_hex : ℕ → Bool
is_hex b = or (and (leb 48 b) (leb b 57)) (and (leb 97 b) (leb b 102))

-- the value of a digit; 0 of any other byte
unfoldable pub hex_digit : ℕ → ℕ
hex_digit b = choose (and (leb 48 b) (leb b 57)) (b - 48) (choose (and (leb 97 b) (leb b 102)) (b - 87) 0)

unfoldable pub hex_pair : ℕ → ℕ → ℕ
hex_pair a b = hex_digit a * 16 + hex_digit b

-- pairs of digits at the front of the rest of a text, which begins at position p, up to a line feed; k are counted already
unfoldable pub hex_from : List ℕ → ℕ → ℕ → Hex
hex_from [] k p = Bad
hex_from (a ∷ []) k p = choose (eqb a 10) (Bytes k (p + 1)) Bad
hex_from (a ∷ (b ∷ rest)) k p =
    choose (eqb a 10) (Bytes k (p + 1))
    (choose (and (is_hex a) (is_hex b)) (hex_from rest (k + 1) (p + 2)) Bad)

unfoldable pub at_most_forgery : Hex → Hex
at_most_forgery Bad = Bad
at_most_forgery (Bytes k p) = choose (ltb longest_forgery k) Bad (Bytes k p)

-- how many bytes stand at position p, and the position behind their line feed
unfoldable pub hex_at : List ℕ → ℕ → Hex
hex_at s p = at_most_forgery (hex_from (drop p s) 0 p)

-- the first k bytes
unfoldable pub hex_bytes : ℕ → List ℕ → List ℕ
hex_bytes zero rest = []
hex_bytes (suc k) [] = []
hex_bytes (suc k) (a ∷ []) = []
hex_bytes (suc k) (a ∷ (b ∷ rest)) = hex_pair a b ∷ hex_bytes k rest

-- "decimal without leading zeros, at most 4,294,967,295" (document 01, "The replay program"), at a position of a text.
use Rattle.std.specs.Prelude.{ℕ, ◌+◌, ◌*◌, ◌-◌, Bool, List, [], ◌∷◌, eqb, ltb, leb, length, get_or, drop}
use Rattle.lists.specs.Choice.{choose, and}
use Rattle.text.specs.declared.number.Number.{Number}
use Rattle.text.specs.declared.number.Number.TheVariants.{Value, Bad}
pub mod Laws
pub mod Range

abbrev pub most_number : ℕ
most_number = 4294967295

-- the bytes `0` to `9`
unfoldable pub is_digit : ℕ → Bool
is_digit b = and (leb 48 b) (leb b 57)

-- a number with one digit more
abbrev pub with_digit : ℕ → ℕ → ℕ
with_digit v b = v * 10 + (b - 48)

-- the digits at the front of the rest of a text, which begins at position p, after those of which v is made
unfoldable pub digits_from : List ℕ → ℕ → ℕ → Number
digits_from [] v p = Value v p
digits_from (b ∷ rest) v p =
    choose (is_digit b)
    (choose (ltb most_number (with_digit v b)) Bad (digits_from rest (with_digit v b) (p + 1)))
    (Value v p)

-- the number at position p: `0`, or digits of which the first is not `0`
unfoldable pub number_from : List ℕ → ℕ → Number
number_from [] p = Bad
number_from (b ∷ rest) p =
    choose (is_digit b)
    (choose (eqb b 48) (Value 0 (p + 1)) (digits_from rest (b - 48) (p + 1)))
    Bad

unfoldable pub number_at : List ℕ → ℕ → Number
number_at s p = number_from (drop p s) p

-- the byte `close` behind a number
unfoldable pub closed : List ℕ → ℕ → Number → Number
closed s close Bad = Bad
closed s close (Value v p) = choose (and (ltb p (length s)) (eqb (get_or s p 0) close)) (Value v (p + 1)) Bad

-- a number and the byte that ends it, a space or a line feed
unfoldable pub field_at : List ℕ → ℕ → ℕ → Number
field_at s p close = closed s close (number_at s p)

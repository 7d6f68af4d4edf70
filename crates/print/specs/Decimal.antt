-- Numbers in decimal without leading zeros.
use Rattle.std.specs.Prelude.{ℕ, zero, suc, ◌+◌, ◌/◌, ◌%◌, List, [], ◌∷◌, ◌++◌, ltb}
use Rattle.lists.specs.Choice.{choose}
pub mod Laws

-- the digits of the largest number of 64 bits
abbrev pub most_digits : ℕ
most_digits = 20

-- the last digits of v, at most so many; `0` is 48
unfoldable pub last_digits : ℕ → ℕ → List ℕ
last_digits zero v = []
last_digits (suc k) v = choose (ltb v 10) ((48 + v) ∷ []) (last_digits k (v / 10) ++ ((48 + v % 10) ∷ []))

unfoldable pub decimal_text : ℕ → List ℕ
decimal_text v = last_digits most_digits v

-- a label, and a number behind it
abbrev pub field_text : List ℕ → ℕ → List ℕ
field_text label v = label ++ decimal_text v

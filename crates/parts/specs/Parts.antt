-- Parts of slices and sums of places, for any numbers; which bytes print.
use Rattle.std.specs.Prelude.{Bool, List, ℕ, ◌+◌, ◌-◌, min, leb, take, drop}
use Rattle.lists.specs.Choice.{and}

-- the bytes from a place on, so many as there are
abbrev pub part_of : List ℕ → ℕ → ℕ → List ℕ
part_of s from count = take count (drop from s)

-- how many bytes stand before the line feed of a line, which begins at a place; the next line begins at another
abbrev pub line_length : ℕ → ℕ → ℕ
line_length at next = next - at - 1

-- the largest place of 64 bits
abbrev pub last_place : ℕ
last_place = 18446744073709551615

-- a place further on, or the last
abbrev pub place_behind : ℕ → ℕ → ℕ
place_behind at by = min (at + by) last_place

-- a space and the signs of ASCII
unfoldable pub printing : ℕ → Bool
printing b = and (leb 32 b) (leb b 126)

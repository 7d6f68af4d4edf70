-- Bytes in hexadecimal, in an array of as many places as a line can forge bytes.
use Rattle.std.specs.Prelude.{ℕ, min, List, drop}
use Rattle.limits.specs.Limits.{longest_forgery}
use Rattle.lists.specs.Lists.{pad_to}
use Rattle.hexadecimal.specs.Hex.{hex_bytes}
pub mod Laws

-- the first k bytes of those at position p, zeros behind them
unfoldable pub hex_array : List ℕ → ℕ → ℕ → List ℕ
hex_array s p k = pad_to longest_forgery (hex_bytes (min k longest_forgery) (drop p s))

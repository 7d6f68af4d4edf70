-- `hex_bytes::hex_pair` meets its contract: two digits, each below 16, make a byte.
use Prim.Native.Nat.{ℕ, ◌+◌, ◌*◌}
use mathlib.Core.Path.{ap₂}
use Rattle.hexadecimal.specs.Hex.{hex_pair}
use Rattle.hex_bytes.proofs.hex_pair.Goals as goal

pub returns : goal.returns
unfolding hex_pair
returns c = ap₂ (λ (x y : ℕ). x * 16 + y) c.hex_digit.ensures.value c.hex_digit-2.ensures.value

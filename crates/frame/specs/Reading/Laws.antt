-- What stands in a burst that is a preamble and a frame, and what a burst that is not turned down is made of.
use Rattle.std.specs.Prelude.{ℕ, ◌-◌, ◌≤◌, ◌≡◌}
use mathlib.Core.List.{List}
use Rattle.std.proofs.Math.ListN.{length}
use Rattle.limits.specs.Limits.{most_bases, frame_bytes, shortest_burst}
use Rattle.frame.specs.Reading.{count_byte, back_distance, identifiers}

-- a burst that holds a whole frame of a list that fits, whatever its identifiers are
pub record Framed (s : List ℕ) : Type 0 where
  pub long : shortest_burst ≤ length s
  pub few : count_byte s ≤ most_bases
  pub back : back_distance s ≡ frame_bytes (count_byte s)
  pub inside : back_distance s ≤ length s

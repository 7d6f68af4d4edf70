-- `bursts::body_in` meets its contract: from the back distance up to the trailer there are 4 × count bytes.
-- from the body's start to the trailer
use Prim.Native.Nat.{ℕ, ◌*◌, ◌-◌}
use mathlib.Core.Path.{◌≡◌}
use mathlib.Core.List.{List}
use native.Mathlib.Omega.{arith}
use lib.ListN.{length, take, drop}
use Rattle.frame.specs.Reading.{count_byte, back_distance, body_start, body_of}
use Rattle.frame.specs.Reading.Laws.{Framed}
use Rattle.bursts.proofs.body_in.Goals as goal

stretch_is : (s : List ℕ) (back : ℕ) → Framed s → back ≡ back_distance s
    → take (length s - 4 - (length s - back)) (drop (length s - back) s) ≡ body_of s
unfolding body_of body_start
stretch_is s back F e =
    let k : length s - 4 - (length s - back_distance s) ≡ 4 * count_byte s = omega (arith, F) in
    rw (e, k)

pub returns : goal.returns
returns c = stretch_is _ _ c.requires c.back_distance-back.ensures

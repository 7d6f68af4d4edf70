-- `bursts::back_distance` meets its contract: two bytes, each below 256, make a number that fits.
use Prim.Native.Nat.{ℕ, ◌+◌, ◌*◌, ◌-◌}
use mathlib.Core.Path.{ap₂}
use native.Mathlib.Omega.{arith}
use lib.ListN.{length}
use Rattle.frame.specs.Reading.{back_distance, from_end}
use Rattle.bursts.proofs.back_distance.Goals as goal

pub overflow_mul-result : goal.overflow_mul-result
overflow_mul-result c =
    let a = c.args in
    omega (arith, c.wide.ensures, c.shared_slice_known-2-1.given (length a.burst.now - 2))

pub overflow_add-result : goal.overflow_add-result
overflow_add-result c =
    let a = c.args in
    let s = a.burst.now in
    omega (
      arith,
      c.wide.ensures,
      c.wide-2.ensures,
      c.shared_slice_known-3-1.given (length s - 2),
      c.shared_slice_known-3-1.given (length s - 1),
    )

pub returns : goal.returns
unfolding back_distance from_end
returns c = ap₂ (λ (a b : ℕ). a * 256 + b) c.wide.ensures c.wide-2.ensures

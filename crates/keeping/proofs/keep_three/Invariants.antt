-- `keeping::keep_three` meets its contract: the frames that are left, kept on the base so far, give what all of them give.
use Prim.Native.Nat.{◌≤◌, ◌-◌}
use mathlib.Core.Path.{◌≡◌}
use lib.ListN.{length, drop}
use Rattle.keeping.specs.Keeping.{AllFit, kept_from}
use Rattle.keeping.proofs.keep_three.Given as goal

abbrev pub invariant-loop-i : goal.invariant-loop-i
invariant-loop-i l =
    (l.i ≤ 3) × (AllFit (length l.out) l.from (drop l.i l.lengths) × (kept_from l.after l.out l.from
    (drop l.i l.lengths) ≡ kept_from l.initial.after l.out 0 l.lengths))

abbrev pub decreases-loop-i : goal.decreases-loop-i
decreases-loop-i l = 3 - l.i

-- `membership::holds` meets its contract. Invariant: x stands from the first place on exactly if it stands from i on.
use Prim.Native.Nat.{◌-◌}
use mathlib.Core.Path.{◌≡◌}
use lib.ListN.{take, drop}
use Rattle.lists.specs.Lists.{member}
use Rattle.membership.proofs.holds.Given as goal

abbrev pub invariant-loop-i : goal.invariant-loop-i
invariant-loop-i l = member l.x (drop l.from (take l.count l.ids)) ≡ member l.x (drop l.i (take l.count l.ids))

abbrev pub decreases-loop-i : goal.decreases-loop-i
decreases-loop-i l = l.end - l.i

-- `framing::put_frame` meets its contract. Invariant: the output holds the body of the first i identifiers, and is as it was past them.
use Prim.Native.Nat.{◌≤◌, ◌-◌}
use mathlib.Core.Path.{◌≡◌}
use lib.ListN.{length, take}
use Rattle.frame.specs.Encoding.{body, over}
use Rattle.framing.proofs.put_frame.Given as goal

abbrev pub invariant-loop-i : goal.invariant-loop-i
invariant-loop-i l = (l.i ≤ l.count) × ((length l.out ≡ length l.initial.out) × (l.out ≡ over (body (take l.i l.ids)) l.initial.out))

abbrev pub decreases-loop-i : goal.decreases-loop-i
decreases-loop-i l = l.count - l.i

-- `keeping::frame_of` meets its contract: the bytes copied so far stand at the front, zeros behind them.
use Prim.Native.Nat.{◌≤◌, ◌-◌}
use mathlib.Core.Path.{◌≡◌}
use lib.ListN.{take, drop}
use Rattle.limits.specs.Limits.{longest_frame}
use Rattle.lists.specs.Lists.{pad_to}
use Rattle.keeping.proofs.frame_of.Given as goal

abbrev pub invariant-loop-i : goal.invariant-loop-i
invariant-loop-i l = (l.i ≤ l.len) × (l.bytes ≡ pad_to longest_frame (take l.i (drop l.from l.out)))

abbrev pub decreases-loop-i : goal.decreases-loop-i
decreases-loop-i l = l.len - l.i

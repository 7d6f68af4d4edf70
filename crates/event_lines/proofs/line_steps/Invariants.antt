-- `event_lines::line_steps` meets its contract: each turn of the loop is one line, what it does to the base that it reaches; where no line
-- follows, or one is turned down, no line more changes anything.
use Prim.Native.Nat.{◌-◌, ◌≤◌}
use mathlib.Core.Path.{◌≡◌}
use Rattle.schedule.specs.Walk.{repeat}
use Rattle.stored_walk.specs.State.{line_after}
use Rattle.event_lines.proofs.line_steps.Given as goal

abbrev pub invariant-loop-i : goal.invariant-loop-i
invariant-loop-i l = (l.i ≤ l.most) × (l.after ≡ repeat l.i (line_after l.s) l.initial.after)

abbrev pub decreases-loop-i : goal.decreases-loop-i
decreases-loop-i l = l.most - l.i

-- `header::id_steps` meets its contract. Invariant: the lines of the bases 1 to b are read.
use Prim.Native.Nat.{◌+◌, ◌-◌, ◌≤◌}
use mathlib.Core.Path.{◌≡◌}
use Rattle.net.specs.Header.{begun_net}
use Rattle.schedule.specs.Walk.{id_steps}
use Rattle.stored_walk.specs.State.{replaying}
use Rattle.header.proofs.id_steps.Given as goal

abbrev pub invariant-loop-b : goal.invariant-loop-b
invariant-loop-b l = (l.b ≤ l.n) × ((l.header.line ≤ 2 + l.b) × (begun_net l.header ≡ id_steps replaying l.s l.b
    (begun_net l.initial.header)))

abbrev pub decreases-loop-b : goal.decreases-loop-b
decreases-loop-b l = l.n - l.b

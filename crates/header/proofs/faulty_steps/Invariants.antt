-- `header::faulty_steps` meets its contract. Invariant: k lines are read, or those that name a faulty link.
use Prim.Native.Nat.{◌+◌, ◌-◌, ◌≤◌}
use mathlib.Core.Path.{◌≡◌}
use Rattle.net.specs.Header.{begun_net}
use Rattle.schedule.specs.Walk.{faulty_step, repeat}
use Rattle.stored_walk.specs.State.{most_named_line, replaying}
use Rattle.header.proofs.faulty_steps.Given as goal

abbrev pub invariant-loop-k : goal.invariant-loop-k
invariant-loop-k l =
    (l.k ≤ l.most) × ((l.most ≡ l.t + 1) × ((l.header.line ≤ most_named_line + l.k)
    × (begun_net l.header ≡ repeat l.k (faulty_step replaying l.s) (begun_net l.initial.header))))

abbrev pub decreases-loop-k : goal.decreases-loop-k
decreases-loop-k l = l.most - l.k

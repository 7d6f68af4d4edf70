-- `base_lines::base_lines` meets its contract. Invariant: the lines of the bases 1 to b are put.
use Prim.Native.Nat.{◌*◌, ◌-◌, ◌≤◌}
use mathlib.Core.Path.{◌≡◌}
use lib.ListN.{length}
use Rattle.limits.specs.Limits.{most_bases}
use Rattle.print.specs.Put.{Put}
use Rattle.net.specs.Abstraction.{net_of, size}
use Rattle.schedule.specs.Report.{line_room, base_lines}
use Rattle.base_lines.proofs.base_lines.Given as goal

abbrev pub invariant-loop-b : goal.invariant-loop-b
invariant-loop-b l =
    (l.b ≤ l.n) × ((l.n ≡ size l.net) × ((l.n ≤ most_bases) × ((l.at ≤ line_room * l.b)
    × ((length l.out ≡ length l.initial.out) × Put l.initial.out 0 (base_lines l.b (net_of l.net)) l.out l.at))))

abbrev pub decreases-loop-b : goal.decreases-loop-b
decreases-loop-b l = l.n - l.b

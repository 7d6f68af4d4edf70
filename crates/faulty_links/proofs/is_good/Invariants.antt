-- `faulty_links::is_good` meets its contract: as long as no pair joins the two bases, the rest decides.
use Prim.Native.Nat.{◌≤◌, ◌-◌}
use mathlib.Core.Path.{◌≡◌}
use lib.ListN.{length, drop}
use Rattle.protocol.specs.Net.{good}
use Rattle.faulty_links.specs.Faulty.{pairs_of, faulty_room}
use Rattle.faulty_links.proofs.is_good.Given as goal

abbrev pub invariant-loop-i : goal.invariant-loop-i
invariant-loop-i l = (l.count ≡ length (pairs_of l.faulty))
    × (l.count ≤ faulty_room) × (l.i ≤ l.count) × (good (pairs_of l.faulty) l.a l.b ≡ good (drop l.i (pairs_of l.faulty)) l.a l.b)

abbrev pub decreases-loop-i : goal.decreases-loop-i
decreases-loop-i l = l.count - l.i

-- `checks::is_secondary` meets its contract: the two conditions stand in the order of the definition.
use Prim.Native.Nat.{ℕ, ◌+◌}
use mathlib.Core.Path.{ap}
use native.Mathlib.Omega.{arith}
use borrow.Author.Tests.{le-leb, lt-leb}
use lib.ListN.{take}
use lib.Dec.{leb}
use Rattle.protocol.specs.Steps.{secondary_holds}
use Rattle.protocol.specs.Record.{list_tally}
use Rattle.lists.specs.Choice.Laws.{and_fails, and_goes_on}
use Rattle.checks.proofs.is_secondary.Goals as goal

pub returns-then-list_tally-t : goal.returns-then-list_tally-t
unfolding secondary_holds
returns-then-list_tally-t c = let a = c.args in
    and_fails _
    (lt-leb (a.base.t + 1) (list_tally a.base (take a.base.n a.v)) (omega (arith, c.list_tally.ensures.0)))

pub returns : goal.returns
unfolding secondary_holds
returns c = let a = c.args in
    and_goes_on (le-leb (a.base.t + 1)
    (list_tally a.base (take a.base.n a.v)) (omega (arith, c.list_tally.ensures.0)))
    (ap (λ (k : ℕ). leb 2 k) c.correct_count.ensures.0)

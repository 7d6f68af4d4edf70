-- `held::is_full` meets its contract: the test is the definition's, on the count.
use Prim.Native.Nat.{ℕ, ◌+◌}
use mathlib.Core.Path.{ap}
use lib.Dec.{leb}
use Rattle.protocol.specs.Links.{full}
use Rattle.held.proofs.is_full.Goals as goal

pub returns : goal.returns
unfolding full
returns c = ap (λ (k : ℕ). leb (c.args.n + 1) k) c.held_count.ensures

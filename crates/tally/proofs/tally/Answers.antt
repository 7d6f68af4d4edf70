-- `tally::tally` meets its contract: the links that hold it, plus one if it is certified.
use Prim.Native.Nat.{◌+◌}
use mathlib.Core.Path.{ap, ap₂, ◌∙◌}
use native.Mathlib.Omega.{arith}
use Rattle.protocol.specs.Record.{tally}
use Rattle.counting.specs.Sums.{bit}
use Rattle.tally.proofs.tally.Goals as goal

pub returns : goal.returns
unfolding tally
returns c =
    (ap₂ ◌+◌ c.verify_links.ensures.0 (c.one.ensures.0 ∙ ap bit c.certifies.ensures), omega arith)

-- `tally::verify_links` meets its contract: the links that hold Verify g are counted one after another.
use Prim.Native.Nat.{◌-◌}
use mathlib.Core.Path.{refl, ap, ◌∙◌}
use native.Mathlib.Omega.{arith}
use Rattle.counted_links.specs.Counted.{counted_none, counted_next, counted_all}
use Rattle.counting.specs.Sums.{bit}
use Rattle.protocol.specs.Record.{link_at}
use Rattle.protocol.specs.Links.{holds_verify}
use Rattle.tally.proofs.verify_links.Goals as goal

pub loop-i-init : goal.loop-i-init
loop-i-init c = counted_none _ _ _

pub loop-i-preserved : goal.loop-i-preserved
unfolding link_at
loop-i-preserved c = counted_next _ _ c.loop-i.invariant c.loop-i-test.true refl (c.one-count.ensures.0 ∙ ap bit c.holds_verify.ensures)

pub returns : goal.returns
returns c = counted_all _ _ c.loop-i.invariant (omega arith) c.links_in-k.ensures

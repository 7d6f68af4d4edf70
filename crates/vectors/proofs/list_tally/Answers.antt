-- `vectors::list_tally` meets its contract: the links that hold the list are counted one after another, and a link gives one of
-- its two kinds at most.
use Prim.Native.Nat.{◌+◌, ◌-◌}
use mathlib.Core.Path.{refl, ap, ap₂, ◌∙◌}
use native.Mathlib.Omega.{arith}
use Rattle.counted_links.specs.Counted.{counted_none, counted_next, counted_all}
use Rattle.counting.specs.Sums.{bit}
use Rattle.vectors.proofs.Once.{vector_once}
use Rattle.protocol.specs.Record.{link_at, list_tally}
use Rattle.vectors.proofs.list_tally.Goals as goal

pub loop-i-init : goal.loop-i-init
loop-i-init c = counted_none _ _ _

pub loop-i-preserved : goal.loop-i-preserved
unfolding link_at
loop-i-preserved c = let correct = c.one-correct.ensures.0 ∙ ap bit c.holds_vector.ensures in
    let verify = c.one-verify.ensures.0 ∙ ap bit c.holds_vector-in-loop-i.ensures in
    counted_next _ _ c.loop-i.invariant c.loop-i-test.true refl (ap₂ ◌+◌ correct verify ∙ vector_once _ _ _)

pub returns : goal.returns
unfolding list_tally
returns c = counted_all _ _ c.loop-i.invariant (omega arith) c.links_in-k.ensures

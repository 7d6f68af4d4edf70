-- `base_identifiers::is_named` meets its contract: as long as no base from b on has the identifier, those below decide.
use mathlib.Core.Path.{refl, sym, ◌∙◌}
use native.Mathlib.Omega.{arith}
use Rattle.base_identifiers.specs.Identifiers.Laws.{named_here, named_below, named_none}
use Rattle.base_identifiers.proofs.is_named.Goals as goal

pub loop-b-init : goal.loop-b-init
loop-b-init c = (omega arith, refl)

pub returns-then-ids-b : goal.returns-then-ids-b
returns-then-ids-b c = sym (c.loop-b.invariant.1 ∙ named_here _ _ _ c.loop-b-test.true c.if-ids-b.true)

pub loop-b-preserved : goal.loop-b-preserved
loop-b-preserved c = (omega arith, c.loop-b.invariant.1 ∙ named_below _ _ _ c.loop-b-test.true c.if-ids-b.false)

pub returns : goal.returns
returns c = sym (c.loop-b.invariant.1 ∙ named_none _ _ _ c.loop-b-test.false)

-- `comparison::zero_behind` meets its contract. Invariant: all behind are zero exactly if all from i on are.
use Prim.Native.Nat.{◌-◌}
use mathlib.Core.Path.{refl, sym, ◌∙◌}
use native.Mathlib.Omega.{arith}
use Rattle.lists.specs.Lists.Laws.{zeros_broken, zeros_next, zeros_end}
use Rattle.comparison.proofs.zero_behind.Goals as goal

pub loop-i-init : goal.loop-i-init
loop-i-init c = refl

pub returns-then-ids-i-ne0 : goal.returns-then-ids-i-ne0
returns-then-ids-i-ne0 c =
    let l = c.loop-i in
    sym (l.invariant ∙ zeros_broken c.args.ids.now l.i (omega arith) c.if-ids-i-ne0.true)

pub loop-i-preserved : goal.loop-i-preserved
loop-i-preserved c =
    let l = c.loop-i in
    l.invariant ∙ zeros_next c.args.ids.now l.i (omega arith) c.if-ids-i-ne0.false

pub returns : goal.returns
returns c = let l = c.loop-i in sym (l.invariant ∙ zeros_end c.args.ids.now l.i (omega arith))

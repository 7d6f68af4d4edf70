-- `marks::unheard` meets its contract. Invariant: the total is that of the broadcasts looked at.
use Prim.Native.Nat.{◌-◌}
use mathlib.Core.Path.{◌≡◌, refl, ◌∙◌}
use mathlib.Core.Logic.{⊎_elim}
use native.Mathlib.Omega.{arith}
use borrow.Author.Tests.{not-true, not-false}
use Rattle.counting.specs.Sums.{sum}
use Rattle.marks.specs.Counts.{one_more, none_more}
use Rattle.node.specs.Node.{heard_by}
use Rattle.marks.proofs.unheard.Goals as goal
use Rattle.marks.proofs.unheard.Goals.{then-not-heard_by, else-not-heard_by}

pub loop-i-init : goal.loop-i-init
loop-i-init c = (omega arith, omega arith, (unfold sum in refl))

pub loop-i-preserved : goal.loop-i-preserved
loop-i-preserved c =
    let inv = c.loop-i.invariant in
    elim c.if-not-heard_by.branch [
      | then-not-heard_by w ↦ (omega arith, omega arith, w.total-is ∙ one_more _ _ _ _ c.heard_by.ensures inv.2 w.if-not-heard_by.true)
      | else-not-heard_by w ↦ (omega arith, omega arith, w.total-is ∙ none_more _ _ _ _ c.heard_by.ensures inv.2 w.if-not-heard_by.false)
    ]

pub returns : goal.returns
returns c = let e : c.loop-i.i ≡ c.args.count = omega arith in c.loop-i.invariant.2 ∙ rw e

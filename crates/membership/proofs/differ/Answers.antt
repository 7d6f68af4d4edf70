-- `membership::differ` meets its contract. Invariant: none stands there twice exactly if none does from i on.
use Prim.Native.Nat.{◌-◌}
use mathlib.Core.Path.{refl, sym, ◌∙◌}
use native.Mathlib.Omega.{arith}
use lib.Seq.{get_or-take}
use lib.ListN.{take, length-take}
use Rattle.lists.specs.Lists.Laws.{distinct_broken, distinct_next, distinct_end}
use Rattle.membership.proofs.differ.Goals as goal

pub loop-i-init : goal.loop-i-init
loop-i-init c = (omega arith, refl)

pub returns-then-holds : goal.returns-then-holds
returns-then-holds c =
    let a = c.args in
    let s = a.ids.now in
    let k = a.count in
    let l = c.loop-i in
    let e = c.least-end.ensures in
    let at = get_or-take k s l.i 0 (omega (arith, e)) in
    sym (l.invariant.1
    ∙ distinct_broken (take k s) l.i (omega (arith, e, length-take k s)) (rw at (sym c.holds.ensures ∙ c.if-holds.true)))

pub loop-i-preserved : goal.loop-i-preserved
loop-i-preserved c =
    let a = c.args in
    let s = a.ids.now in
    let k = a.count in
    let l = c.loop-i in
    let e = c.least-end.ensures in
    let at = get_or-take k s l.i 0 (omega (arith, e)) in (
      omega arith,
      l.invariant.1
          ∙ distinct_next (take k s) l.i (omega (arith, e, length-take k s)) (rw at (sym c.holds.ensures ∙ c.if-holds.false)),
    )

pub returns : goal.returns
returns c = let a = c.args in let s = a.ids.now in let l = c.loop-i in
    sym (l.invariant.1 ∙ distinct_end (take a.count s) l.i (omega (arith, c.least-end.ensures, length-take a.count s)))

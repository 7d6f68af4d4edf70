-- `comparison::ascends` meets its contract. Invariant: the identifiers ascend exactly if they ascend from i on.
use Prim.Native.Nat.{◌-◌, ◌+◌}
use mathlib.Core.Path.{refl, sym, ◌∙◌}
use native.Mathlib.Omega.{arith}
use lib.Seq.{get_or-take}
use lib.ListN.{take, length-take}
use Rattle.lists.specs.Lists.Laws.{ascending_broken, ascending_next, ascending_end}
use Rattle.comparison.proofs.ascends.Goals as goal

pub loop-i-init : goal.loop-i-init
loop-i-init c = (omega arith, refl)

pub returns-then-ids-i : goal.returns-then-ids-i
returns-then-ids-i c =
    let a = c.args in
    let s = a.ids.now in
    let l = c.loop-i in
    let e = c.least-end.ensures in
    sym (l.invariant.1
    ∙ ascending_broken (take a.count s) l.i (omega (arith, e, length-take a.count s)) (omega (
      arith,
      get_or-take a.count s l.i 0 (omega (arith, e)),
      get_or-take a.count s (l.i + 1) 0 (omega (arith, e)),
    )))

pub loop-i-preserved : goal.loop-i-preserved
loop-i-preserved c =
    let a = c.args in
    let s = a.ids.now in
    let l = c.loop-i in
    let e = c.least-end.ensures in (
      omega arith,
      l.invariant.1
          ∙ ascending_next (take a.count s) l.i (omega (arith, e, length-take a.count s)) (omega (
            arith,
            get_or-take a.count s l.i 0 (omega (arith, e)),
            get_or-take a.count s (l.i + 1) 0 (omega (arith, e)),
          )),
    )

pub returns : goal.returns
returns c = let a = c.args in let s = a.ids.now in let l = c.loop-i in
    sym (l.invariant.1 ∙ ascending_end (take a.count s) l.i (omega (arith, c.least-end.ensures, length-take a.count s)))

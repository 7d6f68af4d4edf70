-- `membership::holds` meets its contract. Invariant: x stands from the first place on exactly if it stands from i on.
use Prim.Native.Nat.{◌-◌}
use mathlib.Core.Path.{refl, sym, ◌∙◌}
use native.Mathlib.Omega.{arith}
use lib.Seq.{get_or-take}
use lib.ListN.{take, length-take}
use Rattle.lists.specs.Lists.Laws.{member_found, member_next, member_end}
use Rattle.membership.proofs.holds.Goals as goal

pub loop-i-init : goal.loop-i-init
loop-i-init c = refl

pub offset_bounds-ids-i : goal.offset_bounds-ids-i
offset_bounds-ids-i c = omega (arith, c.least-end.ensures)

pub bounds-ids-i : goal.bounds-ids-i
bounds-ids-i c = omega (arith, c.least-end.ensures)

pub returns-then-ids-i : goal.returns-then-ids-i
returns-then-ids-i c =
    let a = c.args in
    let s = a.ids.now in
    let l = c.loop-i in
    let e = c.least-end.ensures in
    sym (l.invariant
    ∙ member_found a.x (take a.count s) l.i (omega (arith, e, length-take a.count s))
    (get_or-take a.count s l.i 0 (omega (arith, e)) ∙ c.if-ids-i.true))

pub overflow_add-i : goal.overflow_add-i
overflow_add-i c = omega (arith, c.least-end.ensures)

pub loop-i-preserved : goal.loop-i-preserved
loop-i-preserved c =
    let a = c.args in
    let s = a.ids.now in
    let l = c.loop-i in
    let e = c.least-end.ensures in
    l.invariant
    ∙ member_next a.x (take a.count s) l.i (omega (arith, e, length-take a.count s))
    (λ p. c.if-ids-i.false (sym (get_or-take a.count s l.i 0 (omega (arith, e))) ∙ p))

pub returns : goal.returns
returns c = let a = c.args in let s = a.ids.now in let l = c.loop-i in
    sym (l.invariant ∙ member_end a.x (take a.count s) l.i (omega (arith, c.least-end.ensures, length-take a.count s)))

-- `comparison::same` meets its contract. Two fronts of different lengths are not the same;
-- else the invariant says that they are the same exactly if they are from i on.
use Prim.Native.Nat.{◌-◌}
use mathlib.Core.Path.{refl, sym, ◌∙◌}
use native.Mathlib.Omega.{arith}
use lib.Seq.{get_or-take}
use lib.ListN.{take, length-take}
use Rattle.lists.specs.Lists.Laws.{same_broken, same_next, same_end, same_lengths}
use Rattle.comparison.proofs.same.Goals as goal

pub returns-then-least-end : goal.returns-then-least-end
returns-then-least-end c = let a = c.args in let k = a.count in
    sym (same_lengths (take k a.a.now) (take k a.b.now)
    (λ e. c.if-least-end.true (c.least.ensures ∙ sym (length-take k a.b.now) ∙ sym e ∙ length-take k a.a.now
    ∙ sym c.least-end.ensures)))

pub loop-i-init : goal.loop-i-init
loop-i-init c = refl

pub returns-then-a-i : goal.returns-then-a-i
returns-then-a-i c =
    let a = c.args in
    let k = a.count in
    let l = c.loop-i in
    let e = c.least-end.ensures in
    let f = c.least.ensures in
    sym (l.invariant
    ∙ same_broken (take k a.a.now) (take k a.b.now) l.i (omega (arith, e, length-take k a.a.now))
    (omega (arith, e, f, length-take k a.b.now))
    (λ p. c.if-a-i.true
    (sym (get_or-take k a.a.now l.i 0 (omega (arith, e))) ∙ p ∙ get_or-take k a.b.now l.i 0 (omega (arith, e)))))

pub loop-i-preserved : goal.loop-i-preserved
loop-i-preserved c =
    let a = c.args in
    let k = a.count in
    let l = c.loop-i in
    let e = c.least-end.ensures in
    let f = c.least.ensures in
    l.invariant
    ∙ same_next (take k a.a.now) (take k a.b.now) l.i (omega (arith, e, length-take k a.a.now))
    (omega (arith, e, f, length-take k a.b.now))
    (get_or-take k a.a.now l.i 0 (omega (arith, e)) ∙ c.if-a-i.false ∙ sym (get_or-take k a.b.now l.i 0 (omega (arith, e))))

pub returns : goal.returns
returns c =
    let a = c.args in
    let k = a.count in
    let l = c.loop-i in
    let e = c.least-end.ensures in
    let f = c.least.ensures in
    sym (l.invariant
    ∙ same_end (take k a.a.now) (take k a.b.now) l.i (omega (arith, e, length-take k a.a.now))
    (omega (arith, e, f, length-take k a.b.now)))

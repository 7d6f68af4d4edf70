-- `leader_rule::leader_of` meets its contract: before place i, the largest of the places from i on is known.
use Prim.Native.Nat.{ℕ}
use mathlib.Core.Path.{◌≡◌, ap, ◌∙◌}
use native.Mathlib.Omega.{arith}
use lib.ListN.{drop}
use Rattle.leader_rule.specs.Leading.{leader_none, leader_new, leader_same}
use Rattle.protocol.specs.Steps.{leader_of}
use Rattle.leader_rule.proofs.leader_of.Goals as goal

pub loop-i-init : goal.loop-i-init
loop-i-init c = (leader_none c.args.list.now, omega arith)

pub overflow_sub-i : goal.overflow_sub-i
overflow_sub-i c = omega (arith, c.loop-i-test.true)

pub bounds-list-i : goal.bounds-list-i
bounds-list-i c = omega (arith, c.loop-i-test.true, c.loop-i.invariant.1)

pub bounds-list-i-then-most-list : goal.bounds-list-i-then-most-list
bounds-list-i-then-most-list c = omega (arith, c.loop-i-test.true, c.loop-i.invariant.1)

pub loop-i-smaller-then-most-list : goal.loop-i-smaller-then-most-list
loop-i-smaller-then-most-list c = omega (arith, c.loop-i-test.true)

pub loop-i-preserved-then-most-list : goal.loop-i-preserved-then-most-list
loop-i-preserved-then-most-list c =
    (leader_new _ _ _ c.loop-i-test.true c.loop-i.invariant.1 c.loop-i.invariant.0 c.if-most-list.true, omega (arith, c.loop-i.invariant.1))

pub loop-i-smaller : goal.loop-i-smaller
loop-i-smaller c = omega (arith, c.loop-i-test.true)

pub loop-i-preserved : goal.loop-i-preserved
loop-i-preserved c = (
  leader_same _ _ _ c.loop-i-test.true c.loop-i.invariant.1 c.loop-i.invariant.0 c.if-most-list.false,
  omega (
    arith,
    c.loop-i.invariant.1,
  ),
)

pub returns : goal.returns
returns c = let z : c.loop-i.i ≡ 0 = omega (arith, c.loop-i-test.false) in
    c.loop-i.invariant.0 ∙ ap (λ (k : ℕ). leader_of (drop k c.args.list.now)) z

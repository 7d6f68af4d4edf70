-- `faulty_sets::count::of_size` meets its contract. Invariant: the sets of fewer than `size` stand before the number, and `rest` more.
use Prim.Native.Nat.{suc, ◌+◌, ◌-◌}
use mathlib.Core.Path.{◌≡◌, refl, ap}
use native.Mathlib.Omega.{arith}
use Rattle.link_sets.specs.Count.{choices_below}
use Rattle.link_sets.proofs.Count.Laws.{below_more}
use Rattle.faulty_sets.proofs.count.of_size.Goals as goal

pub loop-size-init : goal.loop-size-init
unfolding choices_below
loop-size-init c = (omega arith, omega arith)

pub returns-then-rest-sets : goal.returns-then-rest-sets
returns-then-rest-sets c =
    (c.loop-size.invariant.0, c.loop-size.invariant.1, omega (arith, c.if-rest-sets.true, c.choices-sets.ensures))

pub loop-size-preserved : goal.loop-size-preserved
loop-size-preserved c =
    let next = below_more c.args.m c.loop-size.size refl c.choices-sets.ensures in
    (omega arith, omega (arith, c.loop-size.invariant.1, c.if-rest-sets.false, next))

pub returns : goal.returns
returns c =
    let e : c.loop-size.size + 1 ≡ suc c.args.t = omega arith in
    let next = below_more c.args.m c.loop-size.size refl refl in (
      c.loop-size.invariant.0,
      c.loop-size.invariant.1,
      omega (
        arith,
        c.loop-size.invariant.1,
        c.requires.2,
        next,
        ap (choices_below c.args.m) e,
      ),
    )

-- `faulty_sets::count::choices_below` meets its contract. Invariant: the sets of fewer than `size` are counted.
use Prim.Native.Nat.{◌-◌, ◌≤◌}
use mathlib.Core.Path.{◌≡◌, refl, ap, ◌∙◌}
use native.Mathlib.Omega.{arith}
use Rattle.link_sets.specs.Count.{choices_below}
use Rattle.link_sets.proofs.Count.Laws.{below_more}
use Rattle.faulty_sets.specs.Small.{small_faulty}
use Rattle.faulty_sets.specs.Small.Laws.{sum_few}
use Rattle.faulty_sets.proofs.count.choices_below.Goals as goal

pub loop-size-init : goal.loop-size-init
unfolding choices_below
loop-size-init c = (omega arith, refl)

pub overflow_add-sets : goal.overflow_add-sets
overflow_add-sets c =
    let few : c.loop-size.size ≤ small_faulty = omega (arith, c.requires.1, c.loop-size-test.true) in
    omega (arith, sum_few c.args.m c.loop-size.size c.loop-size.invariant.1 c.choices-sets.ensures c.requires.0 few)

pub loop-size-preserved : goal.loop-size-preserved
loop-size-preserved c = (omega arith, below_more _ _ c.loop-size.invariant.1 c.choices-sets.ensures)

pub returns : goal.returns
returns c =
    let e : c.loop-size.size ≡ c.args.k = omega arith in
    c.loop-size.invariant.1 ∙ ap (choices_below c.args.m) e

-- `faulty_sets::count::choices` meets its contract. Invariant: the sets of `size` are counted; one factor and one divisor more counts those
-- of one pair more.
use Prim.Native.Nat.{◌-◌}
use mathlib.Core.Path.{◌≡◌, refl, sym, ap, ◌∙◌}
use native.Mathlib.Omega.{arith}
use Rattle.link_sets.specs.Count.{choices}
use Rattle.link_sets.proofs.Count.Laws.{choices_none, choices_next}
use Rattle.faulty_sets.specs.Small.Laws.{factor_few}
use Rattle.faulty_sets.proofs.count.choices.Goals as goal

pub returns-then-m-k : goal.returns-then-m-k
returns-then-m-k c = sym (choices_none _ _ c.if-m-k.true)

pub loop-size-init : goal.loop-size-init
unfolding choices
loop-size-init c = (omega arith, omega arith, refl)

pub overflow_mul-sets : goal.overflow_mul-sets
overflow_mul-sets c = omega (arith, factor_few c.args.m _ c.loop-size.size c.loop-size.invariant.2 c.requires)

pub loop-size-preserved : goal.loop-size-preserved
loop-size-preserved c = (omega arith, omega arith, choices_next _ _ c.loop-size.invariant.2)

pub returns : goal.returns
returns c =
    let e : c.loop-size.size ≡ c.args.k = omega arith in
    c.loop-size.invariant.2 ∙ ap (choices c.args.m) e

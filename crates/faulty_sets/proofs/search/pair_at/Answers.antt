-- `faulty_sets::search::pair_at` meets its contract. Invariant: the pair is the one so many places on among the pairs of the lower base and
-- of those above it.
use Prim.Native.Nat.{◌≤◌}
use mathlib.Core.Path.{sym, ap, ◌∙◌}
use mathlib.Core.List.{List}
use native.Mathlib.Omega.{arith}
use lib.ListN.{length, get_or}
use Rattle.link_sets.specs.declared.LinkPair.{LinkPair}
use Rattle.link_sets.proofs.Pairs.Laws.{pair_here, some_above, place_further, pair_above, from_one}
use Rattle.faulty_sets.specs.Answers.{no_link_pair}
use Rattle.faulty_sets.proofs.search.pair_at.Goals as goal

some : (c : goal.In-loop-above) → 1 ≤ c.loop-above.above
some c = some_above c.loop-above.lower c.loop-above.above c.loop-above.rest c.loop-above-test.true c.loop-above.invariant.1

pub loop-above-init : goal.loop-above-init
loop-above-init c =
    let e = from_one c.args.n c.requires.0 in (
      omega arith,
      omega (arith, c.requires.2, ap length e),
      ap (λ (l : List LinkPair). get_or l c.args.place no_link_pair) e,
    )

pub overflow_sub-above-in-loop-above : goal.overflow_sub-above-in-loop-above
overflow_sub-above-in-loop-above c = some c

pub overflow_add-lower : goal.overflow_add-lower
overflow_add-lower c = omega (arith, some c)

pub loop-above-smaller : goal.loop-above-smaller
loop-above-smaller c = omega (arith, some c)

pub loop-above-preserved : goal.loop-above-preserved
loop-above-preserved c = (
  omega (arith, some c),
  place_further c.loop-above.lower c.loop-above.above c.loop-above.rest c.loop-above-test.true c.loop-above.invariant.1,
  c.loop-above.invariant.2 ∙ pair_above c.loop-above.lower c.loop-above.above c.loop-above.rest c.loop-above-test.true
      c.loop-above.invariant.1 no_link_pair,
)

pub returns : goal.returns
returns c = sym (c.loop-above.invariant.2
    ∙ pair_here c.loop-above.lower c.loop-above.above c.loop-above.rest no_link_pair c.loop-above-test.false)

-- `faulty_sets::search::found` meets its contract. Invariant: what the search seeks is the set of that number; each turn decides a pair.
use Prim.Native.Nat.{◌-◌}
use mathlib.Core.Path.{◌≡◌, refl, sym, ◌∙◌}
use native.Mathlib.Omega.{arith}
use Rattle.faulty_sets.specs.Search.{chosen_pairs, sought_by}
use Rattle.faulty_sets.specs.Search.Laws.{place_left, search_ends}
use Rattle.faulty_sets.proofs.search.found.Goals as goal

pub loop-search-init : goal.loop-search-init
unfolding sought_by chosen_pairs
loop-search-init c = (refl, record { there = c.requires.3; room = omega arith; sized = refl })

pub decide_pair-search-requires : goal.decide_pair-search-requires
decide_pair-search-requires c =
    record { le_n = (c.requires.0, c.requires.1, c.loop-search-test.true); searching = c.loop-search.invariant.1 }

pub loop-search-smaller : goal.loop-search-smaller
loop-search-smaller c =
    omega (
      arith,
      c.decide_pair-search.ensures.result_value.1,
      place_left _ c.loop-search.search c.loop-search.invariant.1 c.loop-search-test.true,
    )

pub loop-search-preserved : goal.loop-search-preserved
loop-search-preserved c = (
  c.decide_pair-search.ensures.result_value.0
      ∙ c.loop-search.invariant.0,
  c.decide_pair-search.ensures.searching_2,
)

pub returns : goal.returns
returns c =
    let none : c.loop-search.search.wanted ≡ 0 = omega (arith, c.loop-search-test.false) in (
      sym (search_ends _ c.loop-search.search none)
          ∙ c.loop-search.invariant.0,
      omega (arith, c.loop-search.invariant.1.room),
      c.loop-search.invariant.1.sized,
    )

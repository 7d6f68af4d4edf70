-- `faulty_sets::search::decide_pair` meets its contract: whether the pair is in the set or not, what is sought stays the same.
use Prim.Native.Nat.{ℕ, ◌+◌, ◌-◌, ◌<◌}
use mathlib.Core.Path.{◌≡◌, refl, ap, ◌∙◌}
use native.Mathlib.Omega.{arith}
use Rattle.link_sets.proofs.Pairs.Laws.{pairs_counted}
use Rattle.link_sets.specs.Count.{pair_count, choices}
use Rattle.faulty_sets.specs.Search.Laws.{place_left, taken_sought, taken_searching, passed_sought, passed_searching}
use Rattle.faulty_sets.specs.Small.Laws.{pairs_few}
use Rattle.faulty_sets.proofs.search.decide_pair.Goals as goal

pub overflow_add-place : goal.overflow_add-place
overflow_add-place c = let left : c.args.search.place < pair_count c.args.n =
    place_left c.args.n c.args.search c.requires.searching c.requires.le_n.2 in
    omega (arith, left, pairs_few c.args.n c.requires.le_n.1)

pub overflow_sub-pair_count : goal.overflow_sub-pair_count
overflow_sub-pair_count c = let left : c.args.search.place < pair_count c.args.n =
    place_left c.args.n c.args.search c.requires.searching c.requires.le_n.2 in
    omega (arith, left, c.pair_count.ensures)

pub choices-with-requires : goal.choices-with-requires
choices-with-requires c =
    omega (arith, pairs_few c.args.n c.requires.le_n.1, c.pair_count.ensures)

pub overflow_add-result : goal.overflow_add-result
overflow_add-result c = let left : c.args.search.place < pair_count c.args.n =
    place_left c.args.n c.args.search c.requires.searching c.requires.le_n.2 in
    omega (arith, left, pairs_few c.args.n c.requires.le_n.1)

pub pair_at-requires : goal.pair_at-requires
pair_at-requires c = let left : c.args.search.place < pair_count c.args.n =
    place_left c.args.n c.args.search c.requires.searching c.requires.le_n.2 in
    (c.requires.le_n.0, c.requires.le_n.1, omega (arith, left, pairs_counted c.args.n))

pub returns-then-number-with : goal.returns-then-number-with
returns-then-number-with c = let counted : c.choices-with.result ≡ choices (pair_count c.args.n - (c.args.search.place + 1))
    (c.args.search.wanted - 1) = let search = c.args.search in
    c.choices-with.ensures ∙ ap (λ (m : ℕ). choices (m - (search.place + 1)) (search.wanted - 1)) c.pair_count.ensures in
    let e = counted in
    let less = c.if-number-with.true in
    let pair = c.pair_at.ensures in
    let after = c.with_pair.ensures in
    record {
      result_value = (taken_sought c.args.n c.args.search c.requires.searching c.requires.le_n.2 e less pair after, refl);
      searching_2 = taken_searching c.args.n c.args.search c.requires.searching c.requires.le_n.2 e less pair after;
    }

pub overflow_add-result-2 : goal.overflow_add-result-2
overflow_add-result-2 c = let left : c.args.search.place < pair_count c.args.n =
    place_left c.args.n c.args.search c.requires.searching c.requires.le_n.2 in
    omega (arith, left, pairs_few c.args.n c.requires.le_n.1)

pub returns : goal.returns
returns c = let counted : c.choices-with.result ≡ choices (pair_count c.args.n - (c.args.search.place + 1)) (c.args.search.wanted - 1) =
    let search = c.args.search in c.choices-with.ensures
    ∙ ap (λ (m : ℕ). choices (m - (search.place + 1)) (search.wanted - 1)) c.pair_count.ensures in
    let e = counted in record {
      result_value =
          (passed_sought c.args.n c.args.search c.requires.searching c.requires.le_n.2 e c.if-number-with.false, refl);
      searching_2 =
          passed_searching c.args.n c.args.search c.requires.searching c.requires.le_n.2 e c.if-number-with.false;
    }

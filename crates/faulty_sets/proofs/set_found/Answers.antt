-- `faulty_sets::set_found` meets its contract: the set of its size that stands so far behind the sets of fewer pairs.
use mathlib.Core.Path.{◌∙◌}
use native.Mathlib.Omega.{arith}
use Rattle.faulty_sets.specs.Answers.Laws.{SmallNet, small_passed, set_passed}
use Rattle.faulty_sets.specs.Search.Sizes.{number_counted, rest_there, rest_is}
use Rattle.faulty_sets.specs.Small.Laws.{pairs_few}
use Rattle.faulty_sets.proofs.set_found.Goals as goal

pub pair_count-requires : goal.pair_count-requires
pair_count-requires c = let small : SmallNet c.args.n c.args.t =
    small_passed c.args.n c.args.t (set_passed c.args.n c.args.t c.args.number c.requires).0 in
    (small.some, small.most)

pub of_size-at-requires : goal.of_size-at-requires
of_size-at-requires c = let small : SmallNet c.args.n c.args.t =
    small_passed c.args.n c.args.t (set_passed c.args.n c.args.t c.args.number c.requires).0 in
    let a = c.args in
    let S = small in (
      omega (arith, c.pair_count.ensures, pairs_few a.n S.most),
      S.few,
      number_counted a.n c.pair_count.ensures a.t a.number (set_passed a.n a.t a.number c.requires).1,
    )

pub found-requires : goal.found-requires
found-requires c = let small : SmallNet c.args.n c.args.t =
    small_passed c.args.n c.args.t (set_passed c.args.n c.args.t c.args.number c.requires).0 in
    let at = c.of_size-at.ensures in (
      small.some,
      small.most,
      omega (arith, at.0, small.few),
      rest_there c.args.n c.pair_count.ensures c.args.t c.args.number _ _ at.0 at.1 at.2,
    )

pub returns : goal.returns
returns c =
    let at = c.of_size-at.ensures in
    let set = rest_is c.args.n c.pair_count.ensures c.args.t c.args.number _ _ at.0 at.1 at.2 in
    let f = c.found.ensures in
    (f.0 ∙ set, f.1, f.2)

-- `faulty_sets::set_count` meets its contract: the formula counts the sets of a small net.
use mathlib.Core.Path.{sym, ap₂, ◌∙◌}
use native.Mathlib.Numerals.{add-one}
use native.Mathlib.Omega.{arith}
use Rattle.link_sets.specs.Count.{set_count, choices_below}
use Rattle.link_sets.proofs.Theorem.{sets_many}
use Rattle.faulty_sets.specs.Answers.Laws.{SmallNet, small_passed}
use Rattle.faulty_sets.specs.Small.Laws.{pairs_few}
use Rattle.faulty_sets.proofs.set_count.Goals as goal

pub pair_count-requires : goal.pair_count-requires
pair_count-requires c = let small : SmallNet c.args.n c.args.t = small_passed c.args.n c.args.t c.requires in
    (small.some, small.most)

pub overflow_add-t : goal.overflow_add-t
overflow_add-t c = let small : SmallNet c.args.n c.args.t = small_passed c.args.n c.args.t c.requires in
    omega (arith, small.few)

pub choices_below-requires : goal.choices_below-requires
choices_below-requires c = let small : SmallNet c.args.n c.args.t = small_passed c.args.n c.args.t c.requires in
    let S = small in
    (omega (arith, c.pair_count.ensures, pairs_few c.args.n S.most), omega (arith, S.few))

pub returns : goal.returns
unfolding set_count
returns c =
    c.choices_below.ensures ∙ ap₂ choices_below c.pair_count.ensures (add-one c.args.t)
    ∙ sym (sets_many c.args.n c.args.t)

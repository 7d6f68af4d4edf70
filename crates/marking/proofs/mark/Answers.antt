-- `marking::mark` meets its contract: the place of a mark is inside the array.
use mathlib.Core.Path.{refl, sym}
use Rattle.lists.specs.Choice.Laws.{and_fails, and_no, and_both, chosen_yes, chosen_no}
use Rattle.node.specs.Node.Within.{is_within, below_one, above_most}
use Rattle.node.specs.Node.{marked, mark_place, most_broadcasts}
use Rattle.marking.proofs.mark.Goals as goal

pub returns-then-from-lt1 : goal.returns-then-from-lt1
unfolding marked mark_place
returns-then-from-lt1 c = chosen_no _ (sym (and_fails _ (below_one _ c.if-from-lt1.true))) refl

pub returns-then-from-gt-MOST_BASES : goal.returns-then-from-gt-MOST_BASES
unfolding marked mark_place
returns-then-from-gt-MOST_BASES c = chosen_no _ (sym (and_fails _ (above_most c.if-from-gt-MOST_BASES.true))) refl

pub returns-then-k-lt1 : goal.returns-then-k-lt1
unfolding marked mark_place
returns-then-k-lt1 c = chosen_no _ (rw (below_one most_broadcasts c.if-k-lt1.true) (and_no _)) refl

pub returns-then-k-gt-MOST_BROADCASTS : goal.returns-then-k-gt-MOST_BROADCASTS
unfolding marked mark_place
returns-then-k-gt-MOST_BROADCASTS c = chosen_no _ (rw (above_most c.if-k-gt-MOST_BROADCASTS.true) (and_no _)) refl

pub returns : goal.returns
unfolding marked mark_place
returns c = chosen_yes _ (and_both (is_within c.if-from-lt1.false c.if-from-gt-MOST_BASES.false)
    (is_within c.if-k-lt1.false c.if-k-gt-MOST_BROADCASTS.false)) refl

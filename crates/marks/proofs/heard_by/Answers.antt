-- `marks::heard_by` meets its contract: the place of a mark is inside the array.
use mathlib.Core.Path.{refl}
use Rattle.lists.specs.Choice.Laws.{and_fails, and_goes_on}
use Rattle.node.specs.Node.{heard_by, mark_place}
use Rattle.node.specs.Node.Within.{is_within, below_one, above_most}
use Rattle.marks.proofs.heard_by.Goals as goal

pub returns-then-from-lt1 : goal.returns-then-from-lt1
unfolding heard_by
returns-then-from-lt1 c = and_fails _ (below_one _ c.if-from-lt1.true)

pub returns-then-from-gt-MOST_BASES : goal.returns-then-from-gt-MOST_BASES
unfolding heard_by
returns-then-from-gt-MOST_BASES c = and_fails _ (above_most c.if-from-gt-MOST_BASES.true)

pub returns-then-k-lt1 : goal.returns-then-k-lt1
unfolding heard_by
returns-then-k-lt1 c = and_goes_on (is_within c.if-from-lt1.false c.if-from-gt-MOST_BASES.false) (and_fails _ (below_one _ c.if-k-lt1.true))

pub returns-then-k-gt-MOST_BROADCASTS : goal.returns-then-k-gt-MOST_BROADCASTS
unfolding heard_by
returns-then-k-gt-MOST_BROADCASTS c = and_goes_on
    (is_within c.if-from-lt1.false c.if-from-gt-MOST_BASES.false) (and_fails _ (above_most c.if-k-gt-MOST_BROADCASTS.true))

pub returns : goal.returns
unfolding heard_by mark_place
returns c = and_goes_on (is_within c.if-from-lt1.false c.if-from-gt-MOST_BASES.false)
    (and_goes_on (is_within c.if-k-lt1.false c.if-k-gt-MOST_BROADCASTS.false) refl)

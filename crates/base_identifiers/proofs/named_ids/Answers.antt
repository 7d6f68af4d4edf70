-- `base_identifiers::named_ids` meets its contract: by the range of the number.
use mathlib.Core.Path.{refl}
use Rattle.lists.specs.Choice.Laws.{chosen_yes, chosen_no}
use Rattle.node.specs.Node.Within.{is_within, below_one, above_most}
use Rattle.base_identifiers.specs.Identifiers.{named_ids}
use Rattle.base_identifiers.proofs.named_ids.Goals as goal

pub returns-then-place-lt1 : goal.returns-then-place-lt1
unfolding named_ids
returns-then-place-lt1 c = chosen_no _ (below_one _ c.if-place-lt1.true) refl

pub returns-then-place-gt-MOST_BASES : goal.returns-then-place-gt-MOST_BASES
unfolding named_ids
returns-then-place-gt-MOST_BASES c = chosen_no _ (above_most c.if-place-gt-MOST_BASES.true) refl

pub returns : goal.returns
unfolding named_ids
returns c = chosen_yes _ (is_within c.if-place-lt1.false c.if-place-gt-MOST_BASES.false) refl

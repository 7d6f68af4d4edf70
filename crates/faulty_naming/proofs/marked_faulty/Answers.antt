-- `faulty_naming::marked_faulty` meets its contract: one pair more, while there is room.
use mathlib.Core.Path.{refl}
use borrow.Author.Tests.{lt-ltb, le-ltb}
use Rattle.lists.specs.Choice.Laws.{chosen_yes, chosen_no}
use Rattle.faulty_links.specs.Faulty.{marked_faulty}
use Rattle.faulty_naming.proofs.marked_faulty.Goals as goal

pub returns-then-count-ge-MOST_FAULTY : goal.returns-then-count-ge-MOST_FAULTY
unfolding marked_faulty
returns-then-count-ge-MOST_FAULTY c = chosen_no _ (le-ltb _ _ c.if-count-ge-MOST_FAULTY.true) refl

pub returns : goal.returns
unfolding marked_faulty
returns c = chosen_yes _ (lt-ltb _ _ c.if-count-ge-MOST_FAULTY.false) refl

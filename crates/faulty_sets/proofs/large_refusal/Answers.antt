-- `faulty_sets::large_refusal` meets its contract: each return is the definition at the test that led there.
use mathlib.Core.Path.{refl}
use borrow.Author.Tests.{lt-ltb, le-ltb}
use Rattle.lists.specs.Choice.Laws.{chosen_yes, chosen_no}
use Rattle.faulty_sets.proofs.large_refusal.Goals as goal

pub returns-then-n-gt-SMALL_BASES : goal.returns-then-n-gt-SMALL_BASES
returns-then-n-gt-SMALL_BASES c = chosen_yes _ (lt-ltb _ _ c.if-n-gt-SMALL_BASES.true) refl

pub returns : goal.returns
returns c = chosen_no _ (le-ltb _ _ c.if-n-gt-SMALL_BASES.false) refl

-- `keeping::three_fit` meets its contract: one test after another.
use mathlib.Core.Path.{refl}
use borrow.Author.Tests.{le-leb, lt-leb}
use Rattle.lists.specs.Choice.Laws.{and_fails, and_goes_on}
use Rattle.keeping.specs.Keeping.{three_fit}
use Rattle.keeping.proofs.three_fit.Goals as goal

pub returns-then-first-gt-LONGEST_FRAME : goal.returns-then-first-gt-LONGEST_FRAME
unfolding three_fit
returns-then-first-gt-LONGEST_FRAME c = and_fails _ (lt-leb _ _ c.if-first-gt-LONGEST_FRAME.true)

pub returns-then-second-gt-LONGEST_FRAME : goal.returns-then-second-gt-LONGEST_FRAME
unfolding three_fit
returns-then-second-gt-LONGEST_FRAME c =
    and_goes_on (le-leb _ _ c.if-first-gt-LONGEST_FRAME.false) (and_fails _ (lt-leb _ _ c.if-second-gt-LONGEST_FRAME.true))

pub returns-then-third-gt-LONGEST_FRAME : goal.returns-then-third-gt-LONGEST_FRAME
unfolding three_fit
returns-then-third-gt-LONGEST_FRAME c = and_goes_on (le-leb _ _ c.if-first-gt-LONGEST_FRAME.false)
    (and_goes_on (le-leb _ _ c.if-second-gt-LONGEST_FRAME.false) (and_fails _ (lt-leb _ _ c.if-third-gt-LONGEST_FRAME.true)))

pub returns : goal.returns
unfolding three_fit
returns c = and_goes_on (le-leb _ _ c.if-first-gt-LONGEST_FRAME.false)
    (and_goes_on (le-leb _ _ c.if-second-gt-LONGEST_FRAME.false) (and_goes_on (le-leb _ _ c.if-third-gt-LONGEST_FRAME.false) refl))

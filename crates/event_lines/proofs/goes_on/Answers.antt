-- `event_lines::goes_on` meets its contract: one test after another.
use mathlib.Core.Path.{refl}
use borrow.Author.Tests.{eq-eqb, ne_eqb, lt-ltb, le-ltb, le-leb, lt-leb}
use Rattle.lists.specs.Choice.Laws.{and_fails, and_goes_on}
use Rattle.stored_walk.specs.State.{goes_on}
use Rattle.event_lines.proofs.goes_on.Goals as goal

pub returns-then-refusal-ne0 : goal.returns-then-refusal-ne0
unfolding goes_on
returns-then-refusal-ne0 c = and_fails _ (ne_eqb _ 0 c.if-refusal-ne0.true)

pub returns-then-length-at : goal.returns-then-length-at
unfolding goes_on
returns-then-length-at c = and_goes_on (eq-eqb _ 0 c.if-refusal-ne0.false) (and_fails _ (le-ltb _ _ c.if-length-at.true))

pub returns-then-n-gt-MOST_BASES : goal.returns-then-n-gt-MOST_BASES
unfolding goes_on
returns-then-n-gt-MOST_BASES c = and_goes_on (eq-eqb _ 0 c.if-refusal-ne0.false)
    (and_goes_on (lt-ltb _ _ c.if-length-at.false) (and_fails _ (lt-leb _ _ c.if-n-gt-MOST_BASES.true)))

pub returns : goal.returns
unfolding goes_on
returns c = and_goes_on (eq-eqb _ 0 c.if-refusal-ne0.false)
    (and_goes_on (lt-ltb _ _ c.if-length-at.false) (and_goes_on (le-leb _ _ c.if-n-gt-MOST_BASES.false) refl))

-- `bursts::length_refusal` meets its contract: each return is the definition at the tests that led there.
use mathlib.Core.Path.{refl}
use borrow.Author.Tests.{lt-ltb, le-ltb}
use Rattle.lists.specs.Choice.Laws.{chosen_yes, chosen_no, or_first, or_second, or_neither}
use Rattle.frame.specs.Reading.{length_refusal}
use Rattle.bursts.proofs.length_refusal.Goals as goal

pub returns-then-burst-lt-SHORTEST_BURST : goal.returns-then-burst-lt-SHORTEST_BURST
unfolding length_refusal
returns-then-burst-lt-SHORTEST_BURST c = chosen_yes _ (or_first _ (lt-ltb _ _ c.if-burst-lt-SHORTEST_BURST.true)) refl

pub returns-then-burst-gt-LONGEST_BURST : goal.returns-then-burst-gt-LONGEST_BURST
unfolding length_refusal
returns-then-burst-gt-LONGEST_BURST c = chosen_yes _ (or_second _ (lt-ltb _ _ c.if-burst-gt-LONGEST_BURST.true)) refl

pub returns : goal.returns
unfolding length_refusal
returns c = chosen_no _ (or_neither (le-ltb _ _ c.if-burst-lt-SHORTEST_BURST.false) (le-ltb _ _ c.if-burst-gt-LONGEST_BURST.false)) refl

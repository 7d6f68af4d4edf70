-- `hexadecimal::hex_at` meets its contract: what the walk over the pairs answers, and the limit of a burst.
use mathlib.Core.Path.{refl, sym, ◌∙◌}
use borrow.Author.Tests.{lt-ltb, le-ltb}
use Rattle.lists.specs.Choice.Laws.{chosen_yes, chosen_no}
use Rattle.hexadecimal.specs.Hex.{hex_at, at_most_forgery}
use Rattle.hexadecimal.proofs.hex_at.Goals as goal

pub returns-in_default : goal.returns-in_default
unfolding hex_at at_most_forgery
returns-in_default c = rw (sym c.hex_from.ensures ∙ c.in_default.is)

pub returns-then-count-gt-LONGEST_FORGERY : goal.returns-then-count-gt-LONGEST_FORGERY
unfolding hex_at at_most_forgery
returns-then-count-gt-LONGEST_FORGERY c =
    let hex-from = c.hex_from in
    rw (sym hex-from.ensures ∙ c.in-Bytes.is) (chosen_yes _ (lt-ltb _ _ c.if-count-gt-LONGEST_FORGERY.true) refl)

pub returns : goal.returns
unfolding hex_at at_most_forgery
returns c =
    let hex-from = c.hex_from in
    rw (sym hex-from.ensures ∙ c.in-Bytes.is) (chosen_no _ (le-ltb _ _ c.if-count-gt-LONGEST_FORGERY.false) refl)

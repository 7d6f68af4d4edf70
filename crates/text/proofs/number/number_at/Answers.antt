-- `text::number::number_at` meets its contract: the first byte decides.
use mathlib.Core.Path.{sym, ◌∙◌}
use Rattle.text.specs.Number.Laws.{digit, below_digits, above_digits, number_end, number_none, number_zero, number_of_digits}
use Rattle.text.proofs.number.number_at.Goals as goal

pub returns-then-s-at : goal.returns-then-s-at
returns-then-s-at c = sym (number_end _ _ c.if-s-at.true)

pub returns-then-b-lt48 : goal.returns-then-b-lt48
returns-then-b-lt48 c = sym (number_none _ _ c.if-s-at.false (below_digits c.if-b-lt48.true))

pub returns-then-b-gt57 : goal.returns-then-b-gt57
returns-then-b-gt57 c = sym (number_none _ _ c.if-s-at.false (above_digits c.if-b-gt57.true))

pub returns-then-b-eq48 : goal.returns-then-b-eq48
returns-then-b-eq48 c = sym (number_zero _ _ c.if-s-at.false c.if-b-eq48.true)

pub returns : goal.returns
returns c =
    let value = c.digit_value.ensures in
    c.digits_from.ensures ∙ sym (number_of_digits _ _ _ c.if-s-at.false (digit c.if-b-lt48.false c.if-b-gt57.false) c.if-b-eq48.false value)

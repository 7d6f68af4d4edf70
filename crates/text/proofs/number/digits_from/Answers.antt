-- `text::number::digits_from` meets its contract. Invariant: the digits from the beginning give what those from i on give after v.
use native.Mathlib.Omega.{arith}
use Prim.Native.Nat.{◌-◌}
use mathlib.Core.Path.{refl, sym, ◌∙◌}
use Rattle.text.specs.Number.Laws.{digit, below_digits, above_digits, digits_end, digits_close, digits_over, digits_more}
use Rattle.text.proofs.number.digits_from.Goals as goal

pub loop-i-init : goal.loop-i-init
loop-i-init c = (c.requires, refl)

pub returns-then-b-lt48 : goal.returns-then-b-lt48
returns-then-b-lt48 c =
    let loop-test = c.loop-i-test in
    sym (c.loop-i.invariant.1 ∙ digits_close _ _ _ loop-test.true (below_digits c.if-b-lt48.true))

pub returns-then-b-gt57 : goal.returns-then-b-gt57
returns-then-b-gt57 c =
    let loop-test = c.loop-i-test in
    sym (c.loop-i.invariant.1 ∙ digits_close _ _ _ loop-test.true (above_digits c.if-b-gt57.true))

pub returns-then-more-gt-MOST_NUMBER : goal.returns-then-more-gt-MOST_NUMBER
returns-then-more-gt-MOST_NUMBER c =
    let loop-test = c.loop-i-test in
    let value = c.digit_value.ensures in
    sym (c.loop-i.invariant.1 ∙ digits_over _ _ _ _ loop-test.true (digit c.if-b-lt48.false c.if-b-gt57.false) (omega (
      arith,
      value,
    )) c.if-more-gt-MOST_NUMBER.true)

pub loop-i-preserved : goal.loop-i-preserved
loop-i-preserved c =
    let loop-test = c.loop-i-test in
    let value = c.digit_value.ensures in (
      c.if-more-gt-MOST_NUMBER.false,
      c.loop-i.invariant.1 ∙ digits_more _ _ _ _ loop-test.true (digit c.if-b-lt48.false c.if-b-gt57.false) (omega (
        arith,
        value,
      )) c.if-more-gt-MOST_NUMBER.false,
    )

pub returns : goal.returns
returns c = sym (c.loop-i.invariant.1 ∙ digits_end _ _ _ c.loop-i-test.false)

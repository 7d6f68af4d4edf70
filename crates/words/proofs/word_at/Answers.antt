-- `words::word_at` meets its contract. Invariant: the rest of the word is looked for at the rest of the text.
use Prim.Native.Nat.{◌-◌}
use mathlib.Core.Path.{refl, sym, ◌∙◌}
use Rattle.words.specs.Word.{word_at}
use Rattle.words.specs.Word.Laws.{word_end, word_short, word_more, word_other}
use Rattle.words.proofs.word_at.Goals as goal

pub loop-j-init : goal.loop-j-init
unfolding word_at
loop-j-init c = refl

pub returns-then-s-i : goal.returns-then-s-i
returns-then-s-i c = sym (c.loop-j.invariant ∙ word_short _ _ _ _ c.loop-j-test.true c.if-s-i.true)

pub loop-j-preserved : goal.loop-j-preserved
loop-j-preserved c =
    let loop-test = c.loop-j-test in
    c.loop-j.invariant ∙ word_more _ _ _ _ loop-test.true c.if-s-i.false c.if-s-i-2.true

pub returns-else-s-i-2 : goal.returns-else-s-i-2
returns-else-s-i-2 c =
    let loop-test = c.loop-j-test in
    sym (c.loop-j.invariant ∙ word_other _ _ _ _ loop-test.true c.if-s-i.false c.if-s-i-2.false)

pub returns : goal.returns
returns c = sym (c.loop-j.invariant ∙ word_end _ _ _ _ c.loop-j-test.false)

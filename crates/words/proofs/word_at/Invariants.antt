-- `words::word_at` meets its contract. Invariant: the rest of the word is looked for at the rest of the text.
use Prim.Native.Nat.{◌-◌}
use mathlib.Core.Path.{◌≡◌}
use lib.ListN.{length, drop}
use Rattle.words.specs.Word.{word_from, word_at}
use Rattle.words.proofs.word_at.Given as goal

abbrev pub invariant-loop-j : goal.invariant-loop-j
invariant-loop-j l = word_at l.s l.at l.w ≡ word_from (drop l.j l.w) (drop l.i l.s) l.i

abbrev pub decreases-loop-j : goal.decreases-loop-j
decreases-loop-j l = length l.w - l.j

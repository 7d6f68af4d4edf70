-- Laws of a word at a position: one byte at a time.
use Rattle.std.specs.Prelude.{ℕ, ◌+◌, ◌≤◌, ◌<◌, ◌≡◌, List, [], ◌∷◌, length, get_or, drop, eqb}
use Rattle.std.proofs.Common.{ap₂, ◌∙◌, eq-eqb, ne_eqb, drop_of_length-le, arith}
use Rattle.lists.specs.Choice.Laws.{choose_yes, choose_no, choose_ind}
use Rattle.words.specs.declared.Word.{Word}
use Rattle.words.specs.declared.Word.TheVariants.{Past, Other}
use Rattle.text.specs.Rest.{drop_one}
use Rattle.words.specs.Word.{word_from, word_at}

pub word_end : (w rest : List ℕ) (j p : ℕ) → length w ≤ j → word_from (drop j w) rest p ≡ Past p
unfolding word_from
word_end w rest j p h = rw (drop_of_length-le w h)

pub word_short : (w s : List ℕ) (j i : ℕ) → j < length w → length s ≤ i → word_from (drop j w) (drop i s) i ≡ Other
unfolding word_from
word_short w s j i hj hi = rw (drop_one w j, drop_of_length-le s hi)

pub word_more : (w s : List ℕ) (j i : ℕ) → j < length w → i < length s → get_or s i 0 ≡ get_or w j 0
    → word_from (drop j w) (drop i s) i ≡ word_from (drop (j + 1) w) (drop (i + 1) s) (i + 1)
unfolding word_from
word_more w s j i hj hi e = ap₂ (λ (l r : List ℕ). word_from l r i) (drop_one w j hj) (drop_one s i hi) ∙ choose_yes _ _ (eq-eqb _ _ e)

pub word_other : (w s : List ℕ) (j i : ℕ) → j < length w → i < length s → (get_or s i 0 ≡ get_or w j 0 → ⊥)
    → word_from (drop j w) (drop i s) i ≡ Other
unfolding word_from
word_other w s j i hj hi e = ap₂ (λ (l r : List ℕ). word_from l r i) (drop_one w j hj) (drop_one s i hi) ∙ choose_no _ _ (ne_eqb _ _ e)

-- ---- the position behind a word
abbrev pub Behind : ℕ → Word → Type 0
Behind p Other = Unit {0}
Behind p (Past q) = p ≤ q

from_behind : (w rest : List ℕ) (p : ℕ) → Behind p (word_from w rest p)
unfolding word_from
from_behind [] rest p = omega arith
from_behind (x ∷ w) [] p = tt
from_behind (x ∷ w) (b ∷ rest) p =
    choose_ind (Behind p) (eqb b x) (λ _. before (word_from w rest (p + 1)) (from_behind w rest (p + 1))) (λ _. tt)
  where
    before : (y : Word) → Behind (p + 1) y → Behind p y
    before Other h = tt
    before (Past q) h = omega (arith, h)

pub word_behind : (s : List ℕ) (p : ℕ) (w : List ℕ) → Behind p (word_at s p w)
unfolding word_at
word_behind s p w = from_behind w (drop p s) p

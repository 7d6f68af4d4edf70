-- A word at a position of a text.
use Rattle.std.specs.Prelude.{ℕ, ◌+◌, List, [], ◌∷◌, eqb, drop}
use Rattle.lists.specs.Choice.{choose}
use Rattle.words.specs.declared.Word.{Word}
use Rattle.words.specs.declared.Word.TheVariants.{Past, Other}
pub mod Laws

-- the position behind the word, where the rest of a text, which begins at position p, begins with it
unfoldable pub word_from : List ℕ → List ℕ → ℕ → Word
word_from [] rest p = Past p
word_from (x ∷ w) [] p = Other
word_from (x ∷ w) (b ∷ rest) p = choose (eqb b x) (word_from w rest (p + 1)) Other

unfoldable pub word_at : List ℕ → ℕ → List ℕ → Word
word_at s p w = word_from w (drop p s) p

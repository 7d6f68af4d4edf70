-- The form of a schedule's lines (document 01, "The replay program"): "Lines end in a line feed; single spaces; decimal without
-- leading zeros [..]; a and b are two different bases of the net, k is above zero". A reader at position p of a text s answers what
-- the line names and the position behind its line feed.
use Rattle.std.specs.Prelude.{ℕ, Bool, not, List, [], ◌∷◌, eqb, ltb, leb}
use Rattle.lists.specs.Choice.{choose, and}
use Rattle.text.specs.declared.number.Number.{Number}
use Rattle.text.specs.declared.number.Number.TheVariants.{Value, Bad}
use Rattle.words.specs.declared.Word.{Word}
use Rattle.words.specs.declared.Word.TheVariants.{Past, Other}
use Rattle.hexadecimal.specs.declared.Hex.{Hex}
use Rattle.hexadecimal.specs.declared.Hex.TheVariants as hex
use Rattle.text.specs.Number.{field_at}
use Rattle.words.specs.Word.{word_at}
use Rattle.hexadecimal.specs.Hex.{hex_at}
use Rattle.lines.specs.declared.bases.Two.{Two}
use Rattle.lines.specs.declared.bases.Two.TheVariants.{Both, Neither}
use Rattle.lines.specs.declared.event.Line.{Line}
use Rattle.lines.specs.declared.event.Line.TheVariants.{Start, Carry, Forge, Wrong}
pub mod Laws
pub mod Found

-- ---- bytes and words
abbrev pub space : ℕ
space = 32

abbrev pub line_feed : ℕ
line_feed = 10

-- each word with the space behind it
abbrev pub net_word : List ℕ
net_word = 110 ∷ 101 ∷ 116 ∷ space ∷ []

abbrev pub id_word : List ℕ
id_word = 105 ∷ 100 ∷ space ∷ []

abbrev pub faulty_word : List ℕ
faulty_word = 102 ∷ 97 ∷ 117 ∷ 108 ∷ 116 ∷ 121 ∷ space ∷ []

abbrev pub start_word : List ℕ
start_word = 115 ∷ 116 ∷ 97 ∷ 114 ∷ 116 ∷ space ∷ []

abbrev pub carry_word : List ℕ
carry_word = 99 ∷ 97 ∷ 114 ∷ 114 ∷ 121 ∷ space ∷ []

abbrev pub forge_word : List ℕ
forge_word = 102 ∷ 111 ∷ 114 ∷ 103 ∷ 101 ∷ space ∷ []

-- ---- one reader after another: what is read next begins behind what was read
abbrev pub after_number : {A : Type 0} → Number → A → (ℕ → ℕ → A) → A
after_number Bad none read = none
after_number (Value v p) none read = read v p

abbrev pub after_word : {A : Type 0} → Word → A → (ℕ → A) → A
after_word Other none read = none
after_word (Past p) none read = read p

abbrev pub after_two : {A : Type 0} → Two → A → (ℕ → ℕ → ℕ → A) → A
after_two Neither none read = none
after_two (Both a b p) none read = read a b p

abbrev pub after_hex : {A : Type 0} → Hex → A → (ℕ → ℕ → A) → A
after_hex hex.Bad none read = none
after_hex (hex.Bytes count p) none read = read count p

-- ---- numbers and bases
-- two numbers with a space between them, the second closed by a space or a line feed
unfoldable pub two_at : List ℕ → ℕ → ℕ → Two
two_at s p close = after_number (field_at s p space) Neither (λ a q. after_number (field_at s q close) Neither (λ b r. Both a b r))

-- b is one of the bases 1 to n
unfoldable pub is_base : ℕ → ℕ → Bool
is_base n b = and (leb 1 b) (leb b n)

-- "a and b are two different bases of the net"
unfoldable pub two_bases : ℕ → ℕ → ℕ → Bool
two_bases n a b = and (is_base n a) (and (is_base n b) (not (eqb a b)))

-- ---- the header's lines
-- "`net n t`"
unfoldable pub net_line : List ℕ → ℕ → Two
net_line s p = after_word (word_at s p net_word) Neither (λ q. two_at s q line_feed)

-- "then `id b v` for b = 1 to n": the line of the base b, which names v
unfoldable pub id_line : ℕ → List ℕ → ℕ → Number
id_line b s p =
    after_word (word_at s p id_word) Bad (λ q.
    after_two (two_at s q line_feed) Bad (λ base v r. choose (eqb base b) (Value v r) Bad))

-- "then `faulty a b` (a < b, ..)"
unfoldable pub faulty_line : ℕ → List ℕ → ℕ → Two
faulty_line n s p =
    after_word (word_at s p faulty_word) Neither (λ q.
    after_two (two_at s q line_feed) Neither (λ a b r. choose (and (is_base n a) (and (is_base n b) (ltb a b))) (Both a b r) Neither))

-- ---- the lines of events, behind their word
-- "`start b`"
unfoldable pub start_fields : ℕ → List ℕ → ℕ → Line
start_fields n s p = after_number (field_at s p line_feed) Wrong (λ b q. choose (is_base n b) (Start b q) Wrong)

-- "`carry a b k`", "k is above zero"
unfoldable pub carry_fields : ℕ → List ℕ → ℕ → Line
carry_fields n s p =
    after_two (two_at s p space) Wrong (λ a b q.
    after_number (field_at s q line_feed) Wrong (λ k r. choose (and (leb 1 k) (two_bases n a b)) (Carry a b k r) Wrong))

-- "`forge a b hex`": where the bytes stand and how many they are
unfoldable pub forge_fields : ℕ → List ℕ → ℕ → Line
forge_fields n s p =
    after_two (two_at s p space) Wrong (λ a b q.
    after_hex (hex_at s q) Wrong (λ count r. choose (two_bases n a b) (Forge a b q count r) Wrong))

-- "then, in any order, `start b`, `carry a b k` [..], `forge a b hex`"
unfoldable pub event_line : ℕ → List ℕ → ℕ → Line
event_line n s p =
    after_word (word_at s p start_word)
    (after_word (word_at s p carry_word)
    (after_word (word_at s p forge_word)
    Wrong
    (λ q. forge_fields n s q))
    (λ q. carry_fields n s q))
    (λ q. start_fields n s q)

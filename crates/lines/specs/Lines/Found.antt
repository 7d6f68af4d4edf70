-- What is found in a line that has its form: numbers within their ranges, bases of the net, and a next line that begins further on.
use Rattle.std.specs.Prelude.{ℕ, ◌*◌, ◌≤◌, ◌<◌, ◌≡◌, refl, true, List, eqb, ltb, leb, length, drop}
use Rattle.std.proofs.Common.{arith, leb-true, ltb-true}
use Rattle.limits.specs.Limits.{longest_forgery}
use Rattle.lists.specs.Choice.{choose, and}
use Rattle.lists.specs.Choice.Laws.{choose_ind, and_true}
use Rattle.text.specs.declared.number.Number.{Number}
use Rattle.text.specs.declared.number.Number.TheVariants.{Value, Bad}
use Rattle.words.specs.declared.Word.{Word}
use Rattle.words.specs.declared.Word.TheVariants.{Past, Other}
use Rattle.hexadecimal.specs.declared.Hex.{Hex}
use Rattle.hexadecimal.specs.declared.Hex.TheVariants as hex
use Rattle.text.specs.Number.{most_number, field_at}
use Rattle.text.specs.Number.Range.{Field, field_within}
use Rattle.words.specs.Word.{word_at}
use Rattle.words.specs.Word.Laws.{Behind, word_behind}
use Rattle.hexadecimal.specs.Hex.{hex_at}
use Rattle.hexadecimal.specs.Hex.Range.{HexRange, hex_burst}
use Rattle.lines.specs.declared.bases.Two.{Two}
use Rattle.lines.specs.declared.bases.Two.TheVariants.{Both, Neither}
use Rattle.lines.specs.declared.event.Line.{Line}
use Rattle.lines.specs.declared.event.Line.TheVariants.{Start, Carry, Forge, Wrong}
use Rattle.lines.specs.Lines.{
  space,
  line_feed,
  net_word,
  id_word,
  faulty_word,
  start_word,
  carry_word,
  forge_word,
  after_number,
  after_word,
  after_two,
  after_hex,
  two_at,
  is_base,
  two_bases,
  net_line,
  id_line,
  faulty_line,
  start_fields,
  carry_fields,
  forge_fields,
  event_line,
}

-- ---- what holds of both ways of a reader
pub number_ind : {A : Type 0} (P : A → Type 0) (x : Number) {none : A} {read : ℕ → ℕ → A} (Q : Number → Type 0)
    → Q x → P none → ((v p : ℕ) → Q (Value v p) → P (read v p)) → P (after_number x none read)
number_ind P Bad Q q n r = n
number_ind P (Value v p) Q q n r = r v p q

pub word_ind : {A : Type 0} (P : A → Type 0) (x : Word) {none : A} {read : ℕ → A} (Q : Word → Type 0)
    → Q x → P none → ((p : ℕ) → Q (Past p) → P (read p)) → P (after_word x none read)
word_ind P Other Q q n r = n
word_ind P (Past p) Q q n r = r p q

pub two_ind : {A : Type 0} (P : A → Type 0) (x : Two) {none : A} {read : ℕ → ℕ → ℕ → A} (Q : Two → Type 0)
    → Q x → P none → ((a b p : ℕ) → Q (Both a b p) → P (read a b p)) → P (after_two x none read)
two_ind P Neither Q q n r = n
two_ind P (Both a b p) Q q n r = r a b p q

pub hex_ind : {A : Type 0} (P : A → Type 0) (x : Hex) {none : A} {read : ℕ → ℕ → A} (Q : Hex → Type 0)
    → Q x → P none → ((k p : ℕ) → Q (hex.Bytes k p) → P (read k p)) → P (after_hex x none read)
hex_ind P hex.Bad Q q n r = n
hex_ind P (hex.Bytes k p) Q q n r = r k p q

-- ---- a reader behind another: what it finds begins where the first ended
behind_word : {A : Type 0} (P : A → Type 0) (s : List ℕ) (p : ℕ) (word : List ℕ) {none : A} {read : ℕ → A}
    → P none → ((q : ℕ) → p ≤ q → P (read q)) → P (after_word (word_at s p word) none read)
behind_word P s p word n r = word_ind P (word_at s p word) (Behind p) (word_behind s p word) n r

behind_field : {A : Type 0} (P : A → Type 0) (s : List ℕ) (p close : ℕ) {none : A} {read : ℕ → ℕ → A}
    → P none → ((v q : ℕ) → v ≤ most_number → p < q → P (read v q)) → P (after_number (field_at s p close) none read)
behind_field P s p close n r = number_ind P (field_at s p close) (Field p) (field_within s p close) n (λ v q f. r v q f.0 f.1)

-- ---- two numbers
abbrev pub TwoFound : ℕ → Two → Type 0
TwoFound p Neither = Unit {0}
TwoFound p (Both a b q) = (a ≤ most_number) × ((b ≤ most_number) × (p < q))

two_found : (s : List ℕ) (p close : ℕ) → TwoFound p (two_at s p close)
unfolding two_at
two_found s p close =
    behind_field (TwoFound p) s p space tt
    (λ a q few f. behind_field (TwoFound p) s q close tt (λ b r less g. (few, (less, omega (arith, f, g)))))

behind_two : {A : Type 0} (P : A → Type 0) (s : List ℕ) (p close : ℕ) {none : A} {read : ℕ → ℕ → ℕ → A}
    → P none → ((a b q : ℕ) → b ≤ most_number → p < q → P (read a b q)) → P (after_two (two_at s p close) none read)
behind_two P s p close n r = two_ind P (two_at s p close) (TwoFound p) (two_found s p close) n (λ a b q t. r a b q t.1.0 t.1.1)

-- ---- the header's lines
pub net_found : (s : List ℕ) (p : ℕ) → TwoFound p (net_line s p)
unfolding net_line
net_found s p =
    behind_word (TwoFound p) s p net_word tt (λ q w. further (two_at s q line_feed) q w (two_found s q line_feed))
  where
    further : (x : Two) (q : ℕ) → p ≤ q → TwoFound q x → TwoFound p x
    further Neither q w t = tt
    further (Both a b r) q w t = (t.0, (t.1.0, omega (arith, t.1.1)))

pub id_found : (base : ℕ) (s : List ℕ) (p : ℕ) → Field p (id_line base s p)
unfolding id_line
id_found base s p =
    behind_word (Field p) s p id_word tt
    (λ q w. behind_two (Field p) s q line_feed tt
    (λ b v r few t. choose_ind (Field p) (eqb b base) (λ _. (few, omega (arith, w, t))) (λ _. tt)))

abbrev pub FaultyFound : ℕ → ℕ → Two → Type 0
FaultyFound n p Neither = Unit {0}
FaultyFound n p (Both a b q) = (is_base n a ≡ true) × ((is_base n b ≡ true) × ((a < b) × (p < q)))

pub faulty_found : (n : ℕ) (s : List ℕ) (p : ℕ) → FaultyFound n p (faulty_line n s p)
unfolding faulty_line
faulty_found n s p =
    behind_word (FaultyFound n p) s p faulty_word tt
    (λ q w. behind_two (FaultyFound n p) s q line_feed tt
    (λ a b r _ t. choose_ind (FaultyFound n p) (and (is_base n a) (and (is_base n b) (ltb a b)))
    (λ e.
    let x = and_true (is_base n a) (and (is_base n b) (ltb a b)) e in
    let y = and_true (is_base n b) (ltb a b) x.1 in
    (x.0, (y.0, (ltb-true a b y.1, omega (arith, w, t)))))
    (λ _. tt)))

-- ---- the lines of events
abbrev pub EventFound : ℕ → List ℕ → ℕ → Line → Type 0
EventFound n s p (Start b q) = (is_base n b ≡ true) × (p < q)
EventFound n s p (Carry a b k q) = (two_bases n a b ≡ true) × ((1 ≤ k) × (p < q))
EventFound n s p (Forge a b at count q) =
    (two_bases n a b ≡ true) × ((count ≤ longest_forgery) × ((2 * count ≤ length (drop at s)) × (p < q)))
EventFound n s p Wrong = Unit {0}

start_found : (n : ℕ) (s : List ℕ) (p q : ℕ) → p ≤ q → EventFound n s p (start_fields n s q)
unfolding start_fields
start_found n s p q w =
    behind_field (EventFound n s p) s q line_feed tt
    (λ b r _ f. choose_ind (EventFound n s p) (is_base n b) (λ e. (e, omega (arith, f))) (λ _. tt))

carry_found : (n : ℕ) (s : List ℕ) (p q : ℕ) → p ≤ q → EventFound n s p (carry_fields n s q)
unfolding carry_fields
carry_found n s p q w =
    behind_two (EventFound n s p) s q space tt
    (λ a b r _ t. behind_field (EventFound n s p) s r line_feed tt
    (λ k x _ f. choose_ind (EventFound n s p) (and (leb 1 k) (two_bases n a b))
    (λ e. let y = and_true (leb 1 k) (two_bases n a b) e in (y.1, (leb-true 1 k y.0, omega (arith, t, f))))
    (λ _. tt)))

forge_found : (n : ℕ) (s : List ℕ) (p q : ℕ) → p ≤ q → EventFound n s p (forge_fields n s q)
unfolding forge_fields
forge_found n s p q w =
    behind_two (EventFound n s p) s q space tt
    (λ a b r _ t. hex_ind (EventFound n s p) (hex_at s r) (HexRange s r) (hex_burst s r) tt
    (λ k x f. choose_ind (EventFound n s p) (two_bases n a b) (λ e. (e, (f.1.0, (f.1.1, omega (arith, t, f.0))))) (λ _. tt)))

pub event_found : (n : ℕ) (s : List ℕ) (p : ℕ) → EventFound n s p (event_line n s p)
unfolding event_line
event_found n s p =
    behind_word (EventFound n s p) s p start_word
    (behind_word (EventFound n s p) s p carry_word
    (behind_word (EventFound n s p) s p forge_word tt (λ q w. forge_found n s p q w))
    (λ q w. carry_found n s p q w))
    (λ q w. start_found n s p q w)

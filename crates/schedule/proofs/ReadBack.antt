-- What is printed reads back as it was meant: a word, a number digit by digit, two numbers with a space between them.
use Rattle.std.specs.Prelude.{ℕ, zero, suc, ◌+◌, ◌*◌, ◌-◌, ◌/◌, ◌%◌, ◌^◌, ◌≤◌, ◌<◌, ◌≡◌, refl, false, length, get_or, drop}
use Rattle.std.proofs.Common.{sym, ◌∙◌, pow-suc, arith, eq-eqb, ne_eqb}
use Rattle.std.proofs.Common.{lt-ltb, le-ltb, length-append, length-drop, get_or-drop, drop-drop, drop_at}
use Rattle.std.proofs.Math.Path.{ap}
use mathlib.Core.List.{List, [], ◌∷◌, ◌++◌, append_assoc}
use Rattle.std.proofs.Math.Decide.{dec_lt}
use Rattle.std.proofs.Math.Seq.{get_or-append_seam}
use Rattle.lists.specs.Choice.Laws.{choose_yes, choose_no, and_both}
use Rattle.text.specs.declared.number.Number.TheVariants.{Value}
use Rattle.text.specs.Number.{most_number, is_digit, digits_from, number_from, number_at, closed, field_at}
use Rattle.text.specs.Number.Laws.{digit, below_digits}
use Rattle.words.specs.declared.Word.TheVariants.{Past}
use Rattle.words.specs.Word.{word_from}
use Rattle.print.specs.Decimal.{most_digits, last_digits, decimal_text}
use Rattle.lines.specs.declared.bases.Two.TheVariants.{Both}
use Rattle.lines.specs.Lines.{space, line_feed, two_at}

-- ---- a word
pub word_read : (w rest : List ℕ) (p : ℕ) → word_from w (w ++ rest) p ≡ Past (p + length w)
unfolding word_from
word_read [] rest p = let e : p ≡ p + 0 = omega arith in ap Past e
word_read (x ∷ w) rest p =
    let e : p + 1 + length w ≡ p + suc (length w) = omega arith in
    choose_yes _ _ (eq-eqb x x refl) ∙ word_read w rest (p + 1) ∙ ap Past e

-- ---- a number
-- one digit is the first of a number, or comes behind others
first_digit : (v p : ℕ) (tail : List ℕ) → 1 ≤ v → v < 10 → number_from ((48 + v) ∷ tail) p ≡ digits_from tail v (p + 1)
unfolding number_from
first_digit v p tail some less =
    let e : 48 + v - 48 ≡ v = omega arith in
    choose_yes _ _ (digit (omega arith) (omega arith)) ∙ choose_no _ _ (ne_eqb (48 + v) 48 (λ z. omega arith))
    ∙ ap (λ (x : ℕ). digits_from tail x (p + 1)) e

next_digit : (v p : ℕ) (tail : List ℕ) → v ≤ most_number → digits_from ((48 + v % 10) ∷ tail) (v / 10) p ≡ digits_from tail v (p + 1)
unfolding digits_from
next_digit v p tail most =
    let e : v / 10 * 10 + (48 + v % 10 - 48) ≡ v = omega arith in
    choose_yes _ _ (digit (omega arith) (omega arith))
    ∙ choose_no _ _ (le-ltb most_number (v / 10 * 10 + (48 + v % 10 - 48)) (omega (arith, e)))
    ∙ ap (λ (x : ℕ). digits_from tail x (p + 1)) e

last_one : (k v : ℕ) → v < 10 → last_digits (suc k) v ≡ (48 + v) ∷ []
unfolding last_digits
last_one k v h = choose_yes _ _ (lt-ltb v 10 h)

last_more : (k v : ℕ) → 10 ≤ v → last_digits (suc k) v ≡ last_digits k (v / 10) ++ ((48 + v % 10) ∷ [])
unfolding last_digits
last_more k v h = choose_no _ _ (le-ltb v 10 h)

digits_read : (k v p : ℕ) (tail : List ℕ) → 1 ≤ v → v ≤ most_number → v < 10 ^ k
    → number_from (last_digits k v ++ tail) p ≡ digits_from tail v (p + length (last_digits k v))
digits_read zero v p tail some most less = absurd (omega arith)
digits_read (suc k) v p tail some most less = elim (dec_lt v 10) [
  | yes h ↦ one (last_one k v h) h
  | no h ↦ more (last_more k v (omega arith))
      (digits_read k (v / 10) p ((48 + v % 10) ∷ tail) (omega arith) (omega arith) (omega (arith, pow-suc 10 k)))
]
  where
    one : last_digits (suc k) v ≡ (48 + v) ∷ [] → v < 10
        → number_from (last_digits (suc k) v ++ tail) p ≡ digits_from tail v (p + length (last_digits (suc k) v))
    one e h =
        ap (λ (l : List ℕ). number_from (l ++ tail) p) e ∙ first_digit v p tail some h
        ∙ sym (ap (λ (l : List ℕ). digits_from tail v (p + length l)) e)

    more : last_digits (suc k) v ≡ last_digits k (v / 10) ++ ((48 + v % 10) ∷ [])
        → number_from (last_digits k (v / 10) ++ ((48 + v % 10) ∷ tail)) p
        ≡ digits_from ((48 + v % 10) ∷ tail) (v / 10) (p + length (last_digits k (v / 10)))
        → number_from (last_digits (suc k) v ++ tail) p ≡ digits_from tail v (p + length (last_digits (suc k) v))
    more e f =
        let far : p + length (last_digits k (v / 10)) + 1 ≡ p + length (last_digits (suc k) v)
        = omega (arith, ap length e, length-append (last_digits k (v / 10)) ((48 + v % 10) ∷ [])) in
        ap (λ (l : List ℕ). number_from (l ++ tail) p) e
        ∙ ap (λ (l : List ℕ). number_from l p) (append_assoc (last_digits k (v / 10)) ((48 + v % 10) ∷ []) tail)
        ∙ f ∙ next_digit v (p + length (last_digits k (v / 10))) tail most ∙ ap (digits_from tail v) far

-- a number that is printed, with the byte behind it
module _ (s : List ℕ) (p v close : ℕ) (rest : List ℕ) (some : 1 ≤ v) (most : v ≤ most_number) (stop : is_digit close ≡ false)
    (at : drop p s ≡ decimal_text v ++ (close ∷ rest)) where
  number_read : number_at s p ≡ Value v (p + length (decimal_text v))
  unfolding number_at decimal_text digits_from
  number_read =
      ap (λ (l : List ℕ). number_from l p) at ∙ digits_read most_digits v p (close ∷ rest) some most (omega arith) ∙ choose_no _ _ stop

  room : p + length (decimal_text v) < length s
  room = omega (arith, ap length at, length-append (decimal_text v) (close ∷ rest), length-drop p s)

  behind : get_or s (p + length (decimal_text v)) 0 ≡ close
  behind = sym (get_or-drop p s (length (decimal_text v)) 0) ∙ ap (λ (l : List ℕ). get_or l (length (decimal_text v)) 0) at
      ∙ get_or-append_seam (decimal_text v) close rest 0

  field_read : field_at s p close ≡ Value v (p + length (decimal_text v) + 1)
  unfolding field_at closed
  field_read = ap (closed s close) number_read ∙ choose_yes _ _ (and_both (lt-ltb _ _ room) (eq-eqb _ _ behind))

  field_rest : drop (p + length (decimal_text v) + 1) s ≡ rest
  field_rest =
      let len = length (decimal_text v) in
      let far : p + len + 1 ≡ p + (len + 1) = omega arith in
      let much : length (decimal_text v ++ (close ∷ [])) ≡ len + 1 = omega (arith, length-append (decimal_text v) (close ∷ [])) in
      ap (λ (k : ℕ). drop k s) far ∙ sym (drop-drop (len + 1) p s)
      ∙ ap (drop (len + 1)) (at ∙ sym (append_assoc (decimal_text v) (close ∷ []) rest))
      ∙ drop_at (decimal_text v ++ (close ∷ [])) rest (len + 1) much

-- ---- two numbers with a space between them
pub two_read : (s : List ℕ) (p a b : ℕ) (rest : List ℕ) → 1 ≤ a → a ≤ most_number → 1 ≤ b → b ≤ most_number
    → drop p s ≡ decimal_text a ++ (space ∷ (decimal_text b ++ (line_feed ∷ rest)))
    → two_at s p line_feed ≡ Both a b (p + length (decimal_text a) + 1 + length (decimal_text b) + 1)
unfolding two_at
two_read s p a b rest sa ma sb mb at =
    let q = p + length (decimal_text a) + 1 in
    let first = field_read s p a space (decimal_text b ++ (line_feed ∷ rest)) sa ma (below_digits (omega arith)) at in
    let then = field_rest s p a space (decimal_text b ++ (line_feed ∷ rest)) sa ma (below_digits (omega arith)) at in
    let second = field_read s q b line_feed rest sb mb (below_digits (omega arith)) then in
    rw (first, second)

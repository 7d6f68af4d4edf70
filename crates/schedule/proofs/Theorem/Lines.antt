-- Laws of a text's lines: the lines of a report are those of its bases and the one behind them, as no line of it holds a line feed.
use Rattle.std.specs.Prelude.{ℕ, zero, suc, ◌+◌, ◌-◌, ◌/◌, ◌%◌, ◌≤◌, ◌≡◌, refl, Bool, true, false, eqb, ltb, length}
use Rattle.std.proofs.Common.{sym, ◌∙◌, subst, arith, eqb-true, ne_eqb, length-append}
use Rattle.std.proofs.Math.Path.{ap}
use mathlib.Core.List.{List, [], ◌∷◌, ◌++◌, append_assoc}
use Rattle.std.proofs.lemmas.Bool.{eqb-false}
use Rattle.std.proofs.Math.ListN.{get_or, get_or-append}
use Rattle.std.proofs.Math.Seq.{get_or_at}
use Rattle.lists.specs.Choice.{choose, or}
use Rattle.lists.specs.Choice.Laws.{choose_ind, choose_yes, choose_no, or_false, or_neither}
use Rattle.lists.specs.Lists.{member}
use Rattle.print.specs.Decimal.{last_digits, decimal_text}
use Rattle.lines.specs.Lines.{space, line_feed}
use Rattle.protocol.specs.declared.Base.{Base}
use Rattle.protocol.specs.Record.{final_list}
use Rattle.protocol.specs.Steps.{leader_of}
use Rattle.protocol.specs.Net.{Net}
use Rattle.protocol.specs.Agreement.{BaseOf}
use Rattle.schedule.specs.Report.{
  base_text,
  idle_text,
  running_text,
  prime_text,
  secondary_text,
  leader_text,
  waiting_text,
  feed,
  list_text,
  final_text,
  state_text,
}
use Rattle.schedule.specs.Report.{base_line, base_lines, waiting_line}
use Rattle.schedule.specs.Theorem.{on_first_line, lines_of, line_of, of_base, of_waiting}

-- ---- a text with no line feed
abbrev OneLine : List ℕ → Type 0
OneLine l = member line_feed l ≡ false

one_append : (l k : List ℕ) → OneLine l → OneLine k → OneLine (l ++ k)
unfolding member
one_append [] k p q = q
one_append (c ∷ l) k p q = let r = or_false (eqb c line_feed) (member line_feed l) p in or_neither r.0 (one_append l k r.1 q)

one_digit : (d : ℕ) → OneLine ((48 + d) ∷ [])
unfolding member
one_digit d = or_neither (ne_eqb (48 + d) line_feed (λ e. omega arith)) refl

one_last : (k v : ℕ) → OneLine (last_digits k v)
unfolding last_digits member
one_last zero v = refl
one_last (suc k) v = choose_ind
    OneLine (ltb v 10) (λ _. one_digit v) (λ _. one_append (last_digits k (v / 10)) _ (one_last k (v / 10)) (one_digit (v % 10)))

one_decimal : (v : ℕ) → OneLine (decimal_text v)
unfolding decimal_text
one_decimal v = one_last _ v

one_list : (l : List ℕ) → OneLine (list_text l)
unfolding list_text member or
one_list [] = refl
one_list (v ∷ l) = one_append (decimal_text v) (list_text l) (one_decimal v) (one_list l)

one_final : (l : List ℕ) → OneLine (final_text l)
unfolding final_text member or
one_final l = one_append (list_text l) _ (one_list l) (one_append leader_text (decimal_text (leader_of l)) refl (one_decimal (leader_of l)))

one_state : (b : Base) → OneLine (state_text b)
unfolding state_text member or
one_state b =
    choose_ind OneLine (eqb b.state 0) (λ _. refl)
    (λ _. choose_ind OneLine (eqb b.state 1) (λ _. refl)
    (λ _. choose_ind OneLine (eqb b.state 2) (λ _. one_append prime_text (final_text (final_list b)) refl (one_final (final_list b)))
    (λ _. one_append secondary_text (final_text (final_list b)) refl (one_final (final_list b)))))

one_base : (number : ℕ) (b : Base) → OneLine (of_base number (state_text b))
unfolding of_base member or
one_base number b = one_append
    (base_text ++ decimal_text number) (state_text b) (one_append base_text (decimal_text number) refl (one_decimal number)) (one_state b)

one_waiting : (count : ℕ) → OneLine (of_waiting count)
unfolding of_waiting member or
one_waiting count = one_append waiting_text (decimal_text count) refl (one_decimal count)

-- ---- a line and the rest
first_line : (l rest : List ℕ) → OneLine l → lines_of (l ++ (line_feed ∷ rest)) ≡ l ∷ lines_of rest
unfolding lines_of on_first_line member
first_line [] rest p = choose_yes _ _ refl
first_line (c ∷ l) rest p =
    let r = or_false (eqb c line_feed) (member line_feed l) p in
    choose_no _ _ r.0 ∙ ap (on_first_line c) (first_line l rest r.1)

-- ---- the lines of a report
abbrev base_texts : ℕ → Net → List (List ℕ)
base_texts zero W = []
base_texts (suc k) W = base_texts k W ++ (of_base (suc k) (state_text (W.base (suc k))) ∷ [])

base_first : (number : ℕ) (b : Base) (rest : List ℕ) → lines_of (base_line number b ++ rest) ≡ of_base number (state_text b) ∷ lines_of rest
unfolding base_line of_base
base_first number b rest =
    ap lines_of (append_assoc (of_base number (state_text b)) feed rest)
    ∙ first_line (of_base number (state_text b)) rest (one_base number b)

bases_first : (k : ℕ) (W : Net) (rest : List ℕ) → lines_of (base_lines k W ++ rest) ≡ base_texts k W ++ lines_of rest
unfolding base_lines
bases_first zero W rest = refl
bases_first (suc k) W rest =
    ap lines_of (append_assoc (base_lines k W) (base_line (suc k) (W.base (suc k))) rest)
    ∙ bases_first k W (base_line (suc k) (W.base (suc k)) ++ rest)
    ∙ ap (λ (l : List (List ℕ)). base_texts k W ++ l) (base_first (suc k) (W.base (suc k)) rest)
    ∙ sym (append_assoc (base_texts k W) (of_base (suc k) (state_text (W.base (suc k))) ∷ []) (lines_of rest))

abbrev report_text : ℕ → Net → ℕ → List ℕ
report_text n W count = base_lines n W ++ waiting_line count

pub report_lines : (n : ℕ) (W : Net) (count : ℕ) → lines_of (report_text n W count) ≡ base_texts n W ++ (of_waiting count ∷ [])
unfolding waiting_line of_waiting
report_lines n W count =
    bases_first n W (waiting_line count)
    ∙ ap (λ (l : List (List ℕ)). base_texts n W ++ l) (first_line (of_waiting count) [] (one_waiting count) ∙ (unfold lines_of in refl))

texts_length : (k : ℕ) (W : Net) → length (base_texts k W) ≡ k
texts_length zero W = refl
texts_length (suc k) W = length-append (base_texts k W) _ ∙ (let e = texts_length k W in omega arith)

texts_at : (k : ℕ) (W : Net) (b : ℕ) → BaseOf k b → get_or (base_texts k W) (b - 1) [] ≡ of_base b (state_text (W.base b))
texts_at zero W b B = absurd (omega (arith, B.least, B.most))
texts_at (suc k) W b B = cases (eqb b (suc k)) refl (λ C. texts_at k W b C)
  where
    cases : (x : Bool) → eqb b (suc k) ≡ x → (BaseOf k b → get_or (base_texts k W) (b - 1) [] ≡ of_base b (state_text (W.base b)))
        → get_or (base_texts (suc k) W) (b - 1) [] ≡ of_base b (state_text (W.base b))
    cases true e before =
        let q = eqb-true b (suc k) e in
        get_or_at (base_texts k W) _ [] [] (b - 1) (texts_length k W ∙ omega arith)
        ∙ ap (λ (j : ℕ). of_base j (state_text (W.base j))) (sym q)
    cases false e before =
        let q = eqb-false b (suc k) e in
        get_or-append (base_texts k W) _ [] (b - 1) (omega (arith, texts_length k W, B.least, B.most))
        ∙ before (record { least = B.least; most = omega (arith, B.most) })

-- ---- by their numbers
module _ (n : ℕ) (W : Net) (count : ℕ) where
  pub lines_counted : length (lines_of (report_text n W count)) ≡ suc n
  lines_counted = ap length (report_lines n W count)
      ∙ length-append (base_texts n W) (of_waiting count ∷ []) ∙ (let e = texts_length n W in omega arith)

  pub base_at_lem : (b : ℕ) → BaseOf n b → line_of (report_text n W count) b ≡ of_base b (state_text (W.base b))
  unfolding line_of
  base_at_lem b B =
      ap (λ (l : List (List ℕ)). get_or l (b - 1) []) (report_lines n W count)
      ∙ get_or-append (base_texts n W) _ [] (b - 1) (omega (arith, texts_length n W, B.least, B.most))
      ∙ texts_at n W b B

  pub waiting_at : line_of (report_text n W count) (suc n) ≡ of_waiting count
  unfolding line_of
  waiting_at =
      ap (λ (l : List (List ℕ)). get_or l (suc n - 1) []) (report_lines n W count)
      ∙ get_or_at (base_texts n W) (of_waiting count) [] [] (suc n - 1) (texts_length n W ∙ omega arith)

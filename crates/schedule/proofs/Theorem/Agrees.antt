-- The report agrees: its lines are those of the net at the schedule's end, and what that net's states say is what the lines say,
-- since no two states have one text.
use Rattle.std.specs.Prelude.{ℕ, zero, suc, ◌+◌, ◌/◌, ◌%◌, ◌≤◌, ◌≡◌, refl, ◌≢◌, Bool, true, false, eqb, ltb, leb, length, get_or}
use Rattle.std.proofs.Common.{sym, ap, ◌∙◌, subst, arith, length-append}
use mathlib.Core.List.{List, [], ◌∷◌, ◌++◌, append_cancel_left}
use borrow.Author.Tests.{eqb-true, eqb-false, eq-eqb, le-leb, lt-leb}
use Rattle.lists.specs.Choice.{choose}
use Rattle.lists.specs.Choice.Laws.{choose_ind, choose_yes, choose_no}
use Rattle.print.specs.Decimal.{most_digits, last_digits, decimal_text}
use Rattle.protocol.specs.Net.{Net, Pair, has_stopped, waiting}
use Rattle.protocol.specs.Agreement.{BaseOf}
use Rattle.schedule.specs.Meaning.{header, meaning}
use Rattle.schedule.specs.Report.{
  base_text,
  idle_text,
  running_text,
  prime_text,
  secondary_text,
  waiting_text,
  state_text,
  base_lines,
  waiting_line,
  refused_line,
  report_of,
  report,
}
use Rattle.schedule.specs.Theorem.{
  line_of,
  given_ids,
  roster_text,
  of_base,
  SaysOf,
  says_idle,
  says_running,
  says_prime,
  says_secondary,
  of_waiting,
  Reports,
  ReportAgrees,
}
use Rattle.schedule.proofs.Theorem.States.{agreed_text, StatesAgree, states_agree}
use Rattle.schedule.proofs.Theorem.Lines.{lines_counted, base_at_lem, waiting_at}

-- ---- a line tells what it was made of
-- a number whose text is that of 0
some_digit : (k v : ℕ) → 1 ≤ length (last_digits (suc k) v)
unfolding last_digits
some_digit k v =
    choose_ind (λ (l : List ℕ). 1 ≤ length l) (ltb v 10) (λ _. omega arith)
    (λ _. omega (arith, length-append (last_digits k (v / 10)) ((48 + v % 10) ∷ [])))

zero_digits : (k v : ℕ) → 2 ≤ k → last_digits k v ≡ 48 ∷ [] → v ≡ 0
unfolding last_digits
zero_digits zero v h = absurd (omega arith)
zero_digits (suc zero) v h = absurd (omega arith)
zero_digits (suc (suc k)) v h =
    choose_ind (λ (l : List ℕ). l ≡ 48 ∷ [] → v ≡ 0) (ltb v 10) (λ _ e. let z : 48 + v ≡ 48 = cc in omega arith)
    (λ _ e. absurd (omega (arith, ap length e, length-append (last_digits (suc k) (v / 10)) ((48 + v % 10) ∷ []), some_digit k (v / 10))))

waiting_zero : (count : ℕ) → of_waiting count ≡ of_waiting 0 → count ≡ 0
unfolding of_waiting decimal_text last_digits choose
waiting_zero count e = zero_digits most_digits count (omega arith) (append_cancel_left waiting_text (decimal_text count) (48 ∷ []) e)

of_base_lem : (b : ℕ) (x y : List ℕ) → of_base b x ≡ of_base b y → x ≡ y
unfolding of_base
of_base_lem b x y = append_cancel_left (base_text ++ decimal_text b) x y

-- ---- the state behind a line
module _ (W : Net) (b : ℕ) (ids line : List ℕ) (most : (W.base b).state ≤ 3) (stops : has_stopped W b ≡ leb 2 (W.base b).state) where
  abbrev state : ℕ
  state = (W.base b).state

  running_still : state ≤ 1 → has_stopped W b ≡ false
  running_still h = stops ∙ lt-leb 2 state (omega (arith, h))

  stopped_now : 2 ≤ state → has_stopped W b ≡ true
  stopped_now h = stops ∙ le-leb 2 state h

  says_state : line ≡ of_base b (agreed_text state ids) → SaysOf W b ids line
  unfolding agreed_text
  says_state =
      choose_ind (λ (x : List ℕ). line ≡ of_base b x → SaysOf W b ids line) (eqb state 0)
      (λ z. let is = eqb-true state 0 z in says_idle (running_still (omega (arith, is))) is)
      (λ z. choose_ind (λ (x : List ℕ). line ≡ of_base b x → SaysOf W b ids line) (eqb state 1)
      (λ o. let is = eqb-true state 1 o in says_running (running_still (omega (arith, is))) is)
      (λ o. choose_ind (λ (x : List ℕ). line ≡ of_base b x → SaysOf W b ids line) (eqb state 2)
      (λ p. let is = eqb-true state 2 p in says_prime (stopped_now (omega (arith, is))) is)
      (λ p. let is : state ≡ 3 = omega (arith, most, eqb-false state 0 z, eqb-false state 1 o, eqb-false state 2 p) in
      says_secondary (stopped_now (omega (arith, is))) is)))

idle_text_lem : (state : ℕ) (ids : List ℕ) → state ≡ 0 → agreed_text state ids ≡ idle_text
unfolding agreed_text
idle_text_lem state ids e = choose_yes _ _ (eq-eqb state 0 e)

-- the second byte of ` running` is no other state's
stopped_text : (state : ℕ) (ids : List ℕ) → 2 ≤ state → agreed_text state ids ≢ running_text
unfolding agreed_text
stopped_text state ids h =
    choose_ind (λ (x : List ℕ). x ≢ running_text) (eqb state 0) (λ e. absurd (omega (arith, eqb-true state 0 e)))
    (λ _. choose_ind (λ (x : List ℕ). x ≢ running_text) (eqb state 1) (λ e. absurd (omega (arith, eqb-true state 1 e)))
    (λ _. choose_ind (λ (x : List ℕ). x ≢ running_text)
    (eqb state 2) (λ _ e. absurd (omega (arith, second e))) (λ _ e. absurd (omega (arith, second e)))))
  where
    second : {l : List ℕ} → l ≡ running_text → get_or l 1 0 ≡ 114
    second e = ap (λ (x : List ℕ). get_or x 1 0) e

-- ---- a schedule that is not refused
unrefused : (s : List ℕ) → ((number line : ℕ) → report s ≢ refused_line number line) → (meaning s).refusal ≡ 0
unfolding report report_of
unrefused s never = cases (eqb (meaning s).refusal 0) refl
  where
    cases : (x : Bool) → eqb (meaning s).refusal 0 ≡ x → (meaning s).refusal ≡ 0
    cases true e = eqb-true (meaning s).refusal 0 e
    cases false e = absurd (never (meaning s).refusal (meaning s).line (choose_no _ _ e))

module _ (s : List ℕ) (e : (meaning s).refusal ≡ 0) where
  abbrev n : ℕ
  n = (meaning s).n

  abbrev W : Net
  W = (meaning s).net

  abbrev left : ℕ
  left = waiting n (meaning s).faulty W

  report_is : report s ≡ base_lines n W ++ waiting_line left
  unfolding report report_of
  report_is = choose_yes _ _ (eq-eqb (meaning s).refusal 0 e)

  A : StatesAgree s (meaning s)
  A = states_agree s e

  base_line_lem : (b : ℕ) → BaseOf n b
      → line_of (base_lines n W ++ waiting_line left) b ≡ of_base b (agreed_text (W.base b).state (given_ids s))
  base_line_lem b B = base_at_lem n W left b B ∙ ap (of_base b) (A.text b B)

  says_ends : line_of (base_lines n W ++ waiting_line left) (suc n) ≡ of_waiting 0
      → ((b : ℕ) → BaseOf n b → line_of (base_lines n W ++ waiting_line left) b ≢ of_base b idle_text)
      → (b : ℕ) → BaseOf n b → line_of (base_lines n W ++ waiting_line left) b ≢ of_base b running_text
  says_ends none started b B r =
      stopped_text (W.base b).state (given_ids s) (A.ends waits (λ a C. runs a C) b B) (of_base_lem b _ _ (sym (base_line_lem b B) ∙ r))
    where
      waits : left ≡ 0
      waits = waiting_zero left (sym (waiting_at n W left) ∙ none)

      runs : (a : ℕ) → BaseOf n a → 1 ≤ (W.base a).state
      runs a C = cases (eqb (W.base a).state 0) refl
        where
          cases : (x : Bool) → eqb (W.base a).state 0 ≡ x → 1 ≤ (W.base a).state
          cases true q = absurd
              (started a C (base_line_lem a C
              ∙ ap (of_base a) (idle_text_lem (W.base a).state (given_ids s) (eqb-true (W.base a).state 0 q))))
          cases false q = omega (arith, eqb-false (W.base a).state 0 q)

  says_whole : Reports n (meaning s).faulty W (given_ids s) (base_lines n W ++ waiting_line left)
  says_whole = record {
    lines = lines_counted n W left;
    bases = λ b B. says_state W b (given_ids s) _ (A.states b B) (A.stops b B) (base_line_lem b B);
    waits = waiting_at n W left;
    ends = says_ends;
  }

pub report_agrees : ReportAgrees
report_agrees s never =
    let e = unrefused s never in
    subst (λ (k : ℕ). Reports k (header s).faulty (meaning s).net (given_ids s) (report s)) (states_agree s e).bases
    (subst (λ (f : List Pair). Reports (meaning s).n f (meaning s).net (given_ids s) (report s)) (states_agree s e).faulty
    (subst (Reports (meaning s).n (meaning s).faulty (meaning s).net (given_ids s)) (sym (report_is s e)) (says_whole s e)))

-- What a schedule that is not refused leaves, by the states of its bases: its lines tell a history from a net at its beginning, and
-- agreement holds of it.
use Rattle.std.specs.Prelude.{ℕ, ◌≤◌, ◌≡◌, refl, List, ◌++◌, eqb, leb}
use Rattle.std.proofs.Common.{sym, ap, ap₂, ◌∙◌, subst, arith}
use Rattle.std.proofs.lemmas.Bool.{eqb-false}
use Rattle.lists.specs.Choice.{choose}
use Rattle.lists.specs.Choice.Laws.{choose_same}
use Rattle.lists.specs.Lists.{sort}
use Rattle.print.specs.Decimal.{field_text}
use Rattle.protocol.specs.declared.Base.{Base}
use Rattle.protocol.specs.Record.{final_list}
use Rattle.protocol.specs.Steps.{leader_of}
use Rattle.protocol.specs.Net.{Net, Pair, run, has_stopped, waiting}
use Rattle.protocol.specs.Agreement.{BaseOf, true_identifiers}
use Rattle.schedule.specs.Meaning.{Progress, whole_schedule, header, meaning}
use Rattle.schedule.proofs.Meaning.Begins.{Whole, header_begins, begins_setting, begins_fresh}
use Rattle.schedule.proofs.Meaning.Continues.{Continues, whole_continues, header_unrefused, meaning_whole}
use Rattle.schedule.specs.Report.{idle_state, running_state, prime_state}
use Rattle.schedule.specs.Report.{idle_text, running_text, prime_text, secondary_text, list_text, leader_text, final_text, state_text}
use Rattle.schedule.specs.Theorem.{given_ids, roster_text}
use Rattle.schedule.proofs.Theorem.Histories.{state_most, stops_by, final_by, leader_by, ends_by}

-- what a base prints, by its state alone
unfoldable pub agreed_text : ℕ → List ℕ → List ℕ
agreed_text state ids =
    choose (eqb state idle_state) idle_text
    (choose (eqb state running_state) running_text
    (choose (eqb state prime_state) (prime_text ++ roster_text ids)
    (secondary_text ++ roster_text ids)))

-- what is said of a schedule s that leaves st
pub record StatesAgree (s : List ℕ) (st : Progress) : Type 0 where
  -- the bases and the faulty links of the report are those of the header
  pub bases : st.n ≡ (header s).n
  pub faulty : st.faulty ≡ (header s).faulty
  -- every base prints its state, and one that has stopped prints the roster that all others print
  pub text : (b : ℕ) → BaseOf st.n b
      → state_text (st.net.base b) ≡ agreed_text (st.net.base b).state (given_ids s)
  pub states : (b : ℕ) → BaseOf st.n b → (st.net.base b).state ≤ 3
  -- the state says whether a base has stopped
  pub stops : (b : ℕ) → BaseOf st.n b → has_stopped st.net b ≡ leb 2 (st.net.base b).state
  -- `waiting 0`, and no base idle: every base has stopped
  pub ends : waiting st.n st.faulty st.net ≡ 0
      → ((b : ℕ) → BaseOf st.n b → 1 ≤ (st.net.base b).state)
      → (b : ℕ) → BaseOf st.n b → 2 ≤ (st.net.base b).state

-- ---- the text of a base
roster_is : (l ids : List ℕ) → l ≡ sort ids → leader_of l ≡ leader_of ids → final_text l ≡ roster_text ids
unfolding final_text roster_text
roster_is l ids e f = ap₂ (λ (x : List ℕ) (v : ℕ). list_text x ++ field_text leader_text v) e f

text_agrees : (b : Base) (ids : List ℕ)
    → (2 ≤ b.state → final_text (final_list b) ≡ roster_text ids) → state_text b ≡ agreed_text b.state ids
unfolding state_text agreed_text
text_agrees b ids roster =
    choose_same (eqb b.state 0) (λ _. refl) (λ e.
    choose_same (eqb b.state 1) (λ _. refl) (λ f.
    let r = roster (omega (arith, eqb-false b.state 0 e, eqb-false b.state 1 f)) in
    choose_same (eqb b.state 2) (λ _. ap (λ (l : List ℕ). prime_text ++ l) r) (λ _. ap (λ (l : List ℕ). secondary_text ++ l) r)))

-- ---- lines that go on from a whole header
module _ (begin : Progress) (B : Whole begin) (st : Progress) (T : Continues begin st) where
  abbrev ids : List ℕ
  ids = true_identifiers begin.n begin.net

  -- what holds of the history's net holds of the schedule's
  of_net_lem : (P : Net → Type 0) → P (run begin.faulty begin.net T.events) → P st.net
  of_net_lem P = subst P T.net

  base_of : (b : ℕ) → BaseOf st.n b → BaseOf begin.n b
  base_of b = subst (λ (k : ℕ). BaseOf k b) T.n

  history_text : (b : ℕ) → BaseOf st.n b → state_text (st.net.base b) ≡ agreed_text (st.net.base b).state ids
  history_text b C =
      let S = begins_setting begin B in
      let F = begins_fresh begin B in
      of_net_lem (λ (W : Net). state_text (W.base b) ≡ agreed_text (W.base b).state ids)
      (text_agrees _ ids (λ h. roster_is _ ids
      (final_by begin.n begin.t begin.faulty begin.net S F T.events T.proper b (base_of b C) h)
      (leader_by begin.n begin.t begin.faulty begin.net S F T.events T.proper b (base_of b C) h)))

  history_states : (b : ℕ) → BaseOf st.n b → (st.net.base b).state ≤ 3
  history_states b C =
      of_net_lem (λ (W : Net). (W.base b).state ≤ 3)
      (state_most begin.n begin.t
      begin.faulty begin.net (begins_setting begin B) (begins_fresh begin B) T.events T.proper b (base_of b C))

  history_stops : (b : ℕ) → BaseOf st.n b → has_stopped st.net b ≡ leb 2 (st.net.base b).state
  history_stops b C =
      of_net_lem (λ (W : Net). has_stopped W b ≡ leb 2 (W.base b).state)
      (stops_by begin.n begin.t
      begin.faulty begin.net (begins_setting begin B) (begins_fresh begin B) T.events T.proper b (base_of b C))

  history_ends : waiting st.n st.faulty st.net ≡ 0
      → ((b : ℕ) → BaseOf st.n b → 1 ≤ (st.net.base b).state) → (b : ℕ) → BaseOf st.n b → 2 ≤ (st.net.base b).state
  history_ends none all b C =
      of_net_lem (λ (W : Net). waiting begin.n begin.faulty W ≡ 0
      → ((a : ℕ) → BaseOf begin.n a → 1 ≤ (W.base a).state) → 2 ≤ (W.base b).state)
      (λ w runs. ends_by begin.n begin.t begin.faulty
      begin.net (begins_setting begin B) (begins_fresh begin B) T.events T.proper w runs b (base_of b C))
      (sym (ap₂ (λ (k : ℕ) (f : List Pair). waiting k f st.net) T.n T.faulty) ∙ none)
      (λ a A. all a (subst (λ (k : ℕ). BaseOf k a) (sym T.n) A))

-- ---- the whole schedule
whole_agree : (s : List ℕ) → (whole_schedule s).refusal ≡ 0 → StatesAgree s (whole_schedule s)
unfolding given_ids
whole_agree s e =
    let B = header_begins s (header_unrefused s e) in
    let T = whole_continues s e in
    record {
      bases = T.n;
      faulty = T.faulty;
      text = history_text (header s) B (whole_schedule s) T;
      states = history_states (header s) B (whole_schedule s) T;
      stops = history_stops (header s) B (whole_schedule s) T;
      ends = history_ends (header s) B (whole_schedule s) T;
    }

pub states_agree : (s : List ℕ) → (meaning s).refusal ≡ 0 → StatesAgree s (meaning s)
states_agree s e =
    let m = meaning_whole s e in
    subst (StatesAgree s) (sym m) (whole_agree s (ap (λ (x : Progress). x.refusal) (sym m) ∙ e))

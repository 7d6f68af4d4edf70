-- A base's life in slots is as `Airtime` says. Each call's sums are those of its messages (`called_sums`), so over a life they add up to
-- those of all that was broadcast; and each message weighs what `Steps/Life` asks of a weight, once in own slots, once in relayed ones.
use Rattle.std.specs.Prelude.{ℕ, ◌+◌, ◌*◌, ◌-◌, ◌≤◌, ◌≡◌, refl, Bool, true, eqb, leb}
use Rattle.std.proofs.Common.{sym, ap, ◌∙◌}
use Rattle.std.proofs.Math.Path.{subst}
use mathlib.Core.List.{List, [], ◌∷◌}
use Rattle.std.proofs.Math.Decide.{ℕ_discrete}
use native.Mathlib.Omega.{arith}
use Rattle.limits.specs.Limits.{most_bases, frame_bytes, list_slots}
use Rattle.lists.specs.Choice.{choose}
use Rattle.lists.specs.Choice.Laws.{choose_ind}
use Rattle.lists.specs.Lists.{sum_over}
use Rattle.lists.specs.Lists.Sums.{sum_over_append}
use Rattle.frame.specs.Message.{Message}
use Rattle.frame.specs.Slots.{slots_of}
use Rattle.protocol.specs.declared.Base.{Base}
use Rattle.protocol.specs.declared.Outcome.TheVariants.{Discarded}
use Rattle.protocol.specs.Record.Memory.{Sized}
use Rattle.protocol.specs.Sound.{idle, stopped, record_refusal}
use Rattle.protocol.proofs.Sound.Laws.{record_passed}
use Rattle.protocol.specs.Steps.{discarded, Done, refuses, discards, accepts, with_state, stops, begins, arrival_step}
use Rattle.protocol.specs.Steps.{outcome_with, outcome_of}
use Rattle.protocol.proofs.Steps.Answers.{idle_discarded}
use Rattle.protocol.specs.Steps.Calls.{Call, start_call, arrival_call, called, AllBytes, after_calls, life}
use Rattle.protocol.proofs.Steps.Calls.{call_held}
use Rattle.protocol.proofs.Steps.Calls.{after_setting, refused_for_ever}
use Rattle.protocol.specs.Steps.Cases.{begun}
use Rattle.protocol.proofs.Steps.Cases.{Ends, discarding, running_on, stopping, message_ends, after_start}
use Rattle.protocol.proofs.Steps.Cases.{start_step_cases, arrival_step_cases}
use Rattle.protocol.proofs.Steps.Life.{Weights, Weighs, spent_by, spent, idle_spent, life_weight, life_weight_most}
use Rattle.protocol.proofs.Steps.Refusals.{start_cases, arrival_cases}
use Rattle.protocol.specs.Airtime.{own_part, relayed_part, own_slots, relayed_slots, own_taken, relayed_taken}
use Rattle.protocol.proofs.Airtime.Laws.{sums_whole, start_parts, start_alone, verify_part, final_part, vote_part}
use Rattle.protocol.specs.Airtime.Statement.{own_of, relayed_of, answered, Airtime, RecordTells}

-- ---- the sums that a call answers with are those of what it says
abbrev Sums : ℕ → Done → Type 0
Sums own d = (own_of (outcome_with own d.answer d.says) ≡ sum_over d.says (own_part own))
    × (relayed_of (outcome_with own d.answer d.says) ≡ sum_over d.says (relayed_part own))

module _ (own : ℕ) where
  accepts_sums : (b : Base) (says : List Message) → Sums own (accepts b says)
  unfolding accepts outcome_with own_of relayed_of own_slots relayed_slots
  accepts_sums b says = (refl, refl)

  discards_sums : (b : Base) → Sums own (discards b)
  unfolding discards outcome_with own_of relayed_of own_slots relayed_slots
  discards_sums b = (refl, refl)

  refuses_sums : (b : Base) (r : ℕ) → Sums own (refuses b r)
  unfolding refuses outcome_with own_of relayed_of sum_over
  refuses_sums b r = (refl, refl)

  ends_sums : {b : Base} {i : ℕ} {m : Message} {d : Done} → Ends b i m d → Sums own d
  unfolding stops
  ends_sums {b} discarding = discards_sums b
  ends_sums (running_on T) = accepts_sums _ _
  ends_sums (stopping T D) = accepts_sums _ _

  after_sums : (b : Base) {c : Base} {i : ℕ} {m : Message} {d : Done} → Ends c i m d → Sums own (after_start b d)
  unfolding after_start discards accepts stops outcome_with own_of relayed_of own_slots relayed_slots
  after_sums b discarding = (refl, refl)
  after_sums b (running_on T) = (refl, refl)
  after_sums b (stopping T D) = (refl, refl)

  called_sums : (b : Base) (c : Call) → Sums own (called b c)
  unfolding called begins
  called_sums b (start_call room) = start_cases (Sums own) b room (λ r _. refuses_sums b r)
      (λ _. start_step_cases (Sums own) b (λ _. accepts_sums _ _) (λ _. discards_sums b))
  called_sums b (arrival_call link burst room) = arrival_cases (Sums own) b link burst room (λ r _. refuses_sums b r)
      (λ _. arrival_step_cases (Sums own) b _ _ (λ _. discards_sums b) (λ _. after_sums b (message_ends (begun b) _ _))
      (λ _. ends_sums (message_ends b _ _)))

-- ---- over a life
module _ {own : ℕ} where
  answered_sums : (b : Base) (calls : List Call) → b.own ≡ own → Sized b → AllBytes calls
      → (answered own_of b calls ≡ sum_over (life b calls) (own_part own))
      × (answered relayed_of b calls ≡ sum_over (life b calls) (relayed_part own))
  unfolding answered life sum_over
  answered_sums b [] e S bytes = (refl, refl)
  answered_sums b (c ∷ calls) e S bytes =
      let H = call_held b c S bytes.0 in
      let same : (called b c).base.own ≡ own = H.setting.own ∙ e in
      let says = (called b c).says in
      let here = subst (λ (o : ℕ). (own_of (outcome_with o (called b c).answer says) ≡ sum_over says (own_part own))
      × (relayed_of (outcome_with o (called b c).answer says) ≡ sum_over says (relayed_part own))) (sym same) (called_sums own b c) in
      let rest = answered_sums (called b c).base calls same H.sized bytes.1 in
      let later = life (called b c).base calls in (
        omega (arith, here.0, rest.0, sum_over_append says later (own_part own)),
        omega (arith, here.1, rest.1, sum_over_append says later (relayed_part own)),
      )

-- ---- what the messages weigh
own_weights : ℕ → Weights
own_weights n = record { start = 2; other = 0; vote = 0; final = list_slots n }

relayed_weights : ℕ → Weights
relayed_weights n = record { start = 0; other = 1; vote = list_slots n; final = 0 }

own_weigh : (own n : ℕ) → Weighs (own_weights n) (own_part own) own n
unfolding own_weights
own_weigh own n = record {
  starts = (start_parts own).0;
  others = λ g ne. (verify_part own g ne).0;
  votes = λ v _. (vote_part own v).0;
  finals = λ v l. (final_part own v).0 ∙ ap list_slots l;
}

relayed_weigh : (own n : ℕ) → Weighs (relayed_weights n) (relayed_part own) own n
unfolding relayed_weights
relayed_weigh own n = record {
  starts = (start_parts own).1;
  others = λ g ne. (verify_part own g ne).1;
  votes = λ v l. (vote_part own v).1 ∙ ap list_slots l;
  finals = λ v _. (final_part own v).1;
}

-- ---- the theorem
module _ (b : Base) (calls : List Call) (S : Sized b) (bytes : AllBytes calls) where
  sums : (answered own_of b calls ≡ sum_over (life b calls) (own_part b.own))
      × (answered relayed_of b calls ≡ sum_over (life b calls) (relayed_part b.own))
  sums = answered_sums b calls refl S bytes

  both : answered own_of b calls + answered relayed_of b calls ≡ sum_over (life b calls) slots_of
  unfolding own_slots relayed_slots
  both = omega (arith, sums, sums_whole b.own (life b calls))

  own_most : answered own_of b calls ≤ 2 + list_slots b.n
  unfolding own_weights
  own_most = omega (arith, sums.0, life_weight_most (own_weights b.n) (own_part b.own) b calls (own_weigh b.own b.n) S bytes)

  relayed_most : answered relayed_of b calls ≤ b.n - 1 + list_slots b.n
  unfolding relayed_weights
  relayed_most = omega (
    arith,
    sums.1,
    life_weight_most (relayed_weights b.n) (relayed_part b.own) b calls (relayed_weigh b.own b.n) S bytes,
  )

  -- a record with no base in its net is turned down, and then nothing is broadcast
  most : sum_over (life b calls) slots_of ≤ b.n + 1 + 2 * list_slots b.n
  most = elim (ℕ_discrete (record_refusal b) 0) [
    | yes e ↦ omega (arith, both, own_most, relayed_most, (record_passed b e).net.least)
    | no h ↦ rw (refused_for_ever b calls h).1 (unfold sum_over in omega arith)
  ]

pub airtime : Airtime
airtime b calls S bytes = record {
  both = both b calls S bytes;
  most = most b calls S bytes;
  own_most = own_most b calls S bytes;
  relayed_most = relayed_most b calls S bytes;
}

-- ---- what the record tells
either_way : (t : Bool) (x : ℕ) → choose t x x ≡ x
either_way t x = choose_ind (λ (k : ℕ). k ≡ x) t (λ _. refl) (λ _. refl)

own_spent : (b : Base) → spent (own_weights b.n) b ≡ own_taken b
unfolding own_weights spent spent_by own_taken idle stopped
own_spent b = omega (arith, either_way (eqb b.sent 0) 0)

relayed_spent : (b : Base) → spent (relayed_weights b.n) b ≡ relayed_taken b
unfolding relayed_weights spent spent_by relayed_taken
relayed_spent b = omega (arith, either_way (eqb b.state 0) 0, either_way (leb 2 b.state) 0)

pub record_tells : RecordTells
record_tells b calls S bytes e off =
    let A = answered_sums b calls refl S bytes in
    let same = (after_setting b calls S bytes).n in
    let own = life_weight (own_weights b.n) (own_part b.own) b calls (own_weigh b.own b.n) S bytes in
    let relayed = life_weight (relayed_weights b.n) (relayed_part b.own) b calls (relayed_weigh b.own b.n) S bytes in
    let last = after_calls b calls in record {
      own = A.0 ∙ omega (arith, own, idle_spent (own_weights b.n) b e off)
          ∙ ap (λ (n : ℕ). spent (own_weights n) last) (sym same) ∙ own_spent last;
      relayed = A.1 ∙ omega (arith, relayed, idle_spent (relayed_weights b.n) b e off)
          ∙ ap (λ (n : ℕ). spent (relayed_weights n) last) (sym same) ∙ relayed_spent last;
    }

-- ---- "A discarded arrival at an idle base has own 2, relayed 0."
pub idle_discarded_slots : (b : Base) (i : ℕ) (m : Message) → idle b ≡ true → (arrival_step b i m).answer ≡ discarded
    → outcome_of (arrival_step b i m) ≡ Discarded (frame_bytes 1) (frame_bytes 1) 0 2 0
unfolding after_start discards with_state outcome_with
idle_discarded_slots b i m off e = ap outcome_of (idle_discarded b i m off e) ∙ start_alone b.own Discarded

-- ---- "35 for 16 bases"
pub largest_net : (b : Base) (calls : List Call) → Sized b → AllBytes calls → b.n ≡ most_bases → sum_over (life b calls) slots_of ≤ 35
largest_net b calls S bytes e = let A = (airtime b calls S bytes).most in omega (arith, e, A)

-- What a base broadcasts in its life: "at most n + 3" (document 01, "The steps"), and in slots what document 02's second request says. The
-- record tells it: the two messages of a start, a Verify for each announced identifier, a Verify-Final if one was sent, and a Correct-Final
-- if the base has stopped. So whatever these weigh, over any calls what is broadcast weighs as much as is added to what the record tells.
use Rattle.std.specs.Prelude.{ℕ, suc, ◌+◌, ◌*◌, ◌-◌, ◌≤◌, ◌<◌, ◌≡◌, ◌≢◌, Bool, true, eqb, leb}
use Rattle.std.proofs.Math.Path.{refl, ap}
use Rattle.std.proofs.Common.{sym, ◌∙◌, subst, subst₂, mul-le-mul_right, eqb-true, eq-eqb}
use Rattle.std.proofs.Math.Bool.{false, not}
use mathlib.Core.List.{List, [], ◌∷◌}
use Rattle.std.proofs.Math.Nat.{zero-mul, suc-mul}
use native.Mathlib.Omega.{arith}
use Rattle.std.proofs.Math.ListN.{length}
use Rattle.limits.specs.Refusals.{NetSize}
use Rattle.lists.specs.Choice.{choose}
use Rattle.lists.specs.Choice.Laws.{choose_ind}
use Rattle.lists.specs.Lists.{sum_over}
use Rattle.lists.specs.Lists.Sets.{inserted_length, nonzero_one}
use Rattle.lists.specs.Lists.Sums.{sum_over_append, sum_over_ones}
use Rattle.frame.specs.Message.{Message, announce, verify, correct_final, verify_final, ids_of, Valid}
use Rattle.protocol.specs.declared.Base.{Base}
use Rattle.protocol.specs.Links.{announces}
use Rattle.protocol.specs.Record.{link_at, link_count}
use Rattle.protocol.proofs.Record.Laws.{link_count_lem, link_fewer, link_room}
use Rattle.protocol.proofs.Record.Announced.{length_announced, announced_none}
use Rattle.protocol.specs.Record.Memory.{Sized}
use Rattle.protocol.specs.Sound.{idle, record_refusal}
use Rattle.protocol.proofs.Sound.Laws.{record_passed, sound_parts, idle_unsent, idle_place}
use Rattle.protocol.specs.Steps.{Done, refuses, discards, accepts, with_link, with_sent, with_state, with_final}
use Rattle.protocol.specs.Steps.{with_verify, with_vector, stops, on_message, begins, start_step, arrival_step}
use Rattle.protocol.proofs.Steps.Cases.{holding_vector, Takes, takes_announce, takes_verify, takes_correct, takes_and_votes}
use Rattle.protocol.proofs.Steps.Cases.{takes_verify_final, correct_list, Decides, decides_prime, decides_secondary}
use Rattle.protocol.proofs.Steps.Cases.{Ends, discarding, running_on, stopping}
use Rattle.protocol.specs.Steps.Cases.{begun}
use Rattle.protocol.proofs.Steps.Cases.{message_ends, after_start, start_step_cases, arrival_step_cases}
use Rattle.protocol.proofs.Steps.Refusals.{Heard, arrival_heard, start_cases, arrival_cases}
use Rattle.protocol.specs.Steps.Calls.{Call, start_call, arrival_call, CallBytes, called}
use Rattle.protocol.specs.Steps.Calls.{AllBytes, after_calls, life}
use Rattle.protocol.proofs.Steps.Calls.{call_held, after_setting}
use Rattle.protocol.proofs.Steps.Certified.{announced_to, announced_kept, announced_added, uncertified_other}
use Rattle.protocol.proofs.Steps.Checks.{vote_parts}
use Rattle.protocol.proofs.Steps.Decided.{decides_count}
use Rattle.protocol.proofs.Steps.Laws.{SameSetting, takes_rest, changed}
use Rattle.protocol.proofs.Steps.Memory.{begun_sized}

-- ---- what messages weigh
-- both messages of a start, a Verify of another's identifier, a Verify-Final, a Correct-Final
pub record Weights : Type 0 where
  pub start : ℕ
  pub other : ℕ
  pub vote : ℕ
  pub final : ℕ

-- they are the weights of messages at a base with that identifier in a net of n
pub record Weighs (w : Weights) (weight : Message → ℕ) (own n : ℕ) : Type 0 where
  pub starts : weight (announce own) + weight (verify own) ≡ w.start
  pub others : (g : ℕ) → g ≢ own → weight (verify g) ≡ w.other
  pub votes : (v : List ℕ) → length v ≡ n → weight (verify_final v) ≡ w.vote
  pub finals : (v : List ℕ) → length v ≡ n → weight (correct_final v) ≡ w.final

-- ---- what a record tells
unfoldable pub spent_by : Weights → ℕ → ℕ → ℕ → ℕ
spent_by w state heard sent =
    choose (eqb state 0) 0 w.start + heard * w.other + choose (eqb sent 0) 0 w.vote + choose (leb 2 state) w.final 0

unfoldable pub spent : Weights → Base → ℕ
spent w b = spent_by w b.state (length (announced_to b)) b.sent

pub spent_most : (w : Weights) (b : Base) → spent w b ≤ w.start + (b.n - 1) * w.other + w.vote + w.final
unfolding spent spent_by
spent_most w b = omega (
  arith,
  none_or (eqb b.state 0) w.start,
  mul-le-mul_right w.other heard,
  none_or (eqb b.sent 0) w.vote,
  one_or_none (leb 2 b.state) w.final,
)
  where
    heard : length (announced_to b) ≤ b.n - 1
    heard = omega (arith, length_announced (link_count b) (link_at b), link_fewer b)

    none_or : (t : Bool) (x : ℕ) → choose t 0 x ≤ x
    none_or t x = choose_ind (λ (k : ℕ). k ≤ x) t (λ _. omega arith) (λ _. omega arith)

    one_or_none : (t : Bool) (x : ℕ) → choose t x 0 ≤ x
    one_or_none t x = choose_ind (λ (k : ℕ). k ≤ x) t (λ _. omega arith) (λ _. omega arith)

-- an idle record tells nothing
pub idle_spent : (w : Weights) (b : Base) → record_refusal b ≡ 0 → idle b ≡ true → spent w b ≡ 0
unfolding spent
idle_spent w b e off =
    go nobody (eqb-true b.state 0 (unfold idle in off)) (idle_unsent b (sound_parts b (record_passed b e).sound).idle off)
  where
    nobody : announced_to b ≡ []
    nobody = announced_none (link_count b) (link_at b) (λ i l. silent i l)
      where
        silent : (i : ℕ) → i < link_count b → announces (link_at b i) ≡ false
        silent i l = unfold announces in ap not (eq-eqb (link_at b i).announce 0
            (idle_place b (sound_parts b (record_passed b e).sound).idle off i (omega (arith, link_room b))).announce)

    go : announced_to b ≡ [] → b.state ≡ 0 → b.sent ≡ 0 → spent_by w b.state (length (announced_to b)) b.sent ≡ 0
    go p q r = unfold spent_by choose in rw (p, q, r) (omega (arith, zero-mul w.other))

-- ---- what adds to it
module _ (w : Weights) where
  spent_heard : (state heard sent : ℕ) → spent_by w state (suc heard) sent ≡ spent_by w state heard sent + w.other
  unfolding spent_by
  spent_heard state heard sent = omega (arith, suc-mul heard w.other)

  spent_vote : (state heard : ℕ) → spent_by w state heard 1 ≡ spent_by w state heard 0 + w.vote
  unfolding spent_by choose
  spent_vote state heard = omega arith

  spent_start : (heard sent : ℕ) → spent_by w 1 heard sent ≡ spent_by w 0 heard sent + w.start
  unfolding spent_by choose
  spent_start heard sent = omega arith

  spent_stop : {c : Base} {m : Message} {state : ℕ} {v : List ℕ} → Decides c m state v → (heard sent : ℕ)
      → spent_by w state heard sent ≡ spent_by w 1 heard sent + w.final
  unfolding spent_by choose
  spent_stop (decides_prime H e) heard sent = omega arith
  spent_stop (decides_secondary H e) heard sent = omega arith

-- they stay the weights while n and the own identifier stay
weighs_same : {w : Weights} {weight : Message → ℕ} {b c : Base} → SameSetting b c → Weighs w weight b.own b.n
    → Weighs w weight c.own c.n
weighs_same {w} {weight} S W = subst₂ (Weighs w weight) (sym S.own) (sym S.n) W

-- ---- a step's messages weigh as much as it adds to what the record tells
module _ (w : Weights) (weight : Message → ℕ) where
  abbrev pub Paid : Base → Done → Type 0
  Paid b d = spent w b + sum_over d.says weight ≡ spent w d.base

  one_weight : (m : Message) → sum_over (m ∷ []) weight ≡ weight m
  unfolding sum_over
  one_weight m = omega arith

  stops_paid : (b : Base) {c : Base} {m : Message} {state : ℕ} {v : List ℕ} → Weighs w weight c.own c.n → Valid c.n m
      → Decides c m state v → (said : List Message) → c.state ≡ 1 → spent w b + sum_over said weight ≡ spent w c
      → Paid b (stops c state v said)
  unfolding spent stops accepts with_state with_final link_count link_at
  stops_paid b {c} {state = state} {v = v} W valid D said on e =
      let heard = length (announced_to c) in omega (
        arith,
        e,
        sum_over_append said (correct_final v ∷ []) weight,
        one_weight (correct_final v),
        W.finals v (decides_count valid D),
        spent_stop w D heard c.sent,
        ap (λ (s : ℕ). spent_by w s heard c.sent) on,
      )

  module _ {b : Base} {i : ℕ} (W : Weighs w weight b.own b.n) (below : i < link_count b) (fits : i < length b.links) where
    -- where the same identifiers are announced
    same_paid : {m : Message} {c : Base} {said : List Message} (T : Takes b i m c said) → (changed T).announce ≡ (link_at b i).announce
        → spent w b ≡ spent_by w b.state (length (announced_to c)) b.sent
    unfolding spent
    same_paid T e = ap (λ (l : List ℕ). spent_by w b.state (length l) b.sent) (sym (announced_kept T fits e))

    takes_paid : {m : Message} {c : Base} {said : List Message} → Takes b i m c said → Valid b.n m
        → spent w b + sum_over said weight ≡ spent w c
    unfolding spent with_link with_sent ids_of changed with_verify with_vector sum_over
    takes_paid (takes_announce g p q r) valid = omega (
      arith,
      spent_heard w b.state (length (announced_to b)) b.sent,
      W.others g (uncertified_other b g q),
      ap (λ (k : ℕ). spent_by w b.state k b.sent)
          (inserted_length (announced_added b i g below fits (nonzero_one g valid.above_zero) p)),
    )
    takes_paid (takes_verify g p q) valid = omega (arith, same_paid (takes_verify g p q) refl)
    takes_paid (takes_correct v o p) valid = omega (arith, same_paid (takes_correct v o p) refl)
    takes_paid (takes_and_votes v o p) valid =
        let unsent : b.sent ≡ 0 = (vote_parts (holding_vector b i 3 v) v p).unsent in
        let heard = length (announced_to (with_sent (holding_vector b i 3 v))) in omega (
          arith,
          same_paid (takes_and_votes v o p) refl,
          ap (spent_by w b.state heard) unsent,
          spent_vote w b.state heard,
          W.votes v (valid.count ∙ correct_list v b.n),
        )
    takes_paid (takes_verify_final v o) valid = omega (arith, same_paid (takes_verify_final v o) refl)

    ends_paid : {m : Message} {d : Done} → Valid b.n m → b.state ≡ 1 → Ends b i m d → Paid b d
    unfolding discards accepts sum_over
    ends_paid valid on discarding = omega arith
    ends_paid valid on (running_on T) = takes_paid T valid
    ends_paid {m} valid on (stopping T D) =
        let S = (takes_rest T).setting in
        stops_paid b (weighs_same S W) (subst (λ (n : ℕ). Valid n m) (sym S.n) valid) D _ ((takes_rest T).state ∙ on) (takes_paid T valid)

  message_paid : (b : Base) (i : ℕ) (m : Message) → Weighs w weight b.own b.n → Sized b → NetSize b.n → i < b.n - 1
      → Valid b.n m → b.state ≡ 1 → Paid b (on_message b i m)
  message_paid b i m W S N h valid on =
      ends_paid W (omega (arith, link_count_lem b N)) (omega (arith, S.links, N.most)) valid on (message_ends b i m)

  discards_paid : (b : Base) → Paid b (discards b)
  unfolding discards sum_over
  discards_paid b = omega arith

  refuses_paid : (b : Base) (r : ℕ) → Paid b (refuses b r)
  unfolding refuses sum_over
  refuses_paid b r = omega arith

  -- a start, and a step that follows it
  begun_spent : (b : Base) → idle b ≡ true → spent w (begun b) ≡ spent w b + w.start
  unfolding spent with_state link_count link_at idle
  begun_spent b off =
      let heard = length (announced_to b) in
      omega (arith, spent_start w heard b.sent, ap (λ (s : ℕ). spent_by w s heard b.sent) (eqb-true b.state 0 off))

  pub start_step_paid : (b : Base) → Weighs w weight b.own b.n → Paid b (start_step b)
  start_step_paid b W = start_step_cases (Paid b) b (λ off. go (begun_spent b off)) (λ _. discards_paid b)
    where
      go : spent w (begun b) ≡ spent w b + w.start → Paid b (begins b)
      go e = unfold begins accepts sum_over in omega (arith, e, W.starts)

  after_paid : (b : Base) (d : Done) → Weighs w weight b.own b.n → idle b ≡ true → Paid (begun b) d → Paid b (after_start b d)
  unfolding after_start sum_over
  after_paid b d W off p = omega (arith, p, begun_spent b off, W.starts)

  pub arrival_step_paid : (b : Base) (i : ℕ) (m : Message) → Weighs w weight b.own b.n → Sized b → Heard b i m
      → Paid b (arrival_step b i m)
  arrival_step_paid b i m W S H = arrival_step_cases (Paid b) b i m (λ _. discards_paid b)
      (λ off. after_paid b (on_message (begun b) i m) W off
      (unfold with_state in message_paid (begun b) i m W (begun_sized b S) N H.place H.valid refl))
      (λ on. message_paid b i m W S N H.place H.valid on)
    where
      N : NetSize b.n
      N = (record_passed b H.refusal).net

  -- ---- a call, and a life
  call_paid : (b : Base) (c : Call) → Weighs w weight b.own b.n → Sized b → CallBytes c → Paid b (called b c)
  unfolding called
  call_paid b (start_call room) W S bytes = start_cases (Paid b) b room (λ r _. refuses_paid b r) (λ _. start_step_paid b W)
  call_paid b (arrival_call link burst room) W S bytes = arrival_cases (Paid b) b link burst room (λ r _. refuses_paid b r)
      (λ e. arrival_step_paid b _ _ W S (arrival_heard b link burst room bytes e))

  pub life_weight : (b : Base) (calls : List Call) → Weighs w weight b.own b.n → Sized b → AllBytes calls
      → spent w b + sum_over (life b calls) weight ≡ spent w (after_calls b calls)
  unfolding life after_calls sum_over
  life_weight b [] W S bytes = omega arith
  life_weight b (c ∷ calls) W S bytes =
      let H = call_held b c S bytes.0 in
      let q = life_weight (called b c).base calls (weighs_same H.setting W) H.sized bytes.1 in
      omega (arith, call_paid b c W S bytes.0, q, sum_over_append (called b c).says (life (called b c).base calls) weight)

  -- all that a base broadcasts weighs at most one start, n − 1 Verifies of other identifiers, one Verify-Final and one Correct-Final
  pub life_weight_most : (b : Base) (calls : List Call) → Weighs w weight b.own b.n → Sized b → AllBytes calls
      → sum_over (life b calls) weight ≤ w.start + (b.n - 1) * w.other + w.vote + w.final
  life_weight_most b calls W S bytes =
      let same = ap (λ (n : ℕ). (n - 1) * w.other) (after_setting b calls S bytes).n in
      omega (arith, life_weight b calls W S bytes, same, spent_most w (after_calls b calls))

-- ---- the number of messages: each weighs one
abbrev pub one_each : Weights
one_each = record { start = 2; other = 1; vote = 1; final = 1 }

pub one_each_weigh : (own n : ℕ) → Weighs one_each (λ _. 1) own n
one_each_weigh own n = record { starts = refl; others = λ g _. refl; votes = λ v _. refl; finals = λ v _. refl }

pub life_most : (b : Base) (calls : List Call) → Sized b → AllBytes calls → NetSize b.n → length (life b calls) ≤ b.n + 3
life_most b calls S bytes N = omega (
  arith,
  life_weight_most one_each (λ _. 1) b calls (one_each_weigh b.own b.n) S bytes,
  sum_over_ones (life b calls),
  N.least,
)

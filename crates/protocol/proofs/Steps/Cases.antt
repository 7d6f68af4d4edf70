-- The ways in which a step can end, read off the steps once. A running base discards a message, or takes it in
-- and runs on, or takes it in and stops by the check that follows. An arrival at an idle base is one at the base
-- just started. Every theorem about the steps goes by these cases: what holds of each way holds of the step.
use Rattle.std.specs.Prelude.{ℕ, ◌<◌, ◌≡◌, refl, ◌≢◌, true, false, List, [], ◌∷◌}
use Rattle.std.proofs.Common.{◌∙◌, arith, leb-false, eqb-true}
use Rattle.std.proofs.lemmas.Bool.{eqb-false, not-false}
use Rattle.lists.specs.Choice.{choose, or}
use Rattle.lists.specs.Choice.Laws.{choose_ind, choose_yes, choose_no, or_false}
use Rattle.lists.specs.Lists.{member, sort}
use Rattle.frame.specs.Message.{Message, announce, verify, correct_final, verify_final, kind_of, ids_of, holds_one, expected}
use Rattle.protocol.specs.declared.Base.{Base}
use Rattle.protocol.specs.Links.{announces, holds_verify, full}
use Rattle.protocol.specs.Record.{link_at, certified}
use Rattle.protocol.specs.Sound.{idle, stopped}
use Rattle.protocol.proofs.Sound.Idle.{idle_not_stopped}
use Rattle.protocol.specs.Steps.{Done, discards, accepts, with_link, with_sent, with_announce, with_verify, with_vector}
use Rattle.protocol.specs.Steps.{prime_holds, secondary_holds, stops, prime_check, secondary_check, on_announce, on_verify, votes, vote}
use Rattle.protocol.specs.Steps.{on_correct_final, on_verify_final, on_message, begins, start_step, and_then, arrival_step}
use Rattle.protocol.specs.Steps.Cases.{begun}

-- ---- an arrival at a running base
-- b with a vector message held on the link at place i
abbrev pub holding_vector : Base → ℕ → ℕ → List ℕ → Base
holding_vector b i kind v = with_link b i (with_vector (link_at b i) kind v)

-- b takes the message in on the link at place i: it is then c, and has broadcast `said`
pub data Takes (b : Base) (i : ℕ) : Message → Base → List Message → Type 0 where
  takes_announce : (g : ℕ) → announces (link_at b i) ≡ false → member g (certified b) ≡ false → full b.n (link_at b i) ≡ false
      → Takes b i (announce g) (with_link b i (with_announce (link_at b i) g)) (verify g ∷ [])
  takes_verify : (g : ℕ) → holds_verify (link_at b i) g ≡ false → full b.n (link_at b i) ≡ false
      → Takes b i (verify g) (with_link b i (with_verify (link_at b i) g)) []
  takes_correct : (v : List ℕ) → (link_at b i).held ≢ 3 → votes (holding_vector b i 3 v) v ≡ false
      → Takes b i (correct_final v) (holding_vector b i 3 v) []
  takes_and_votes : (v : List ℕ) → (link_at b i).held ≢ 3 → votes (holding_vector b i 3 v) v ≡ true
      → Takes b i (correct_final v) (with_sent (holding_vector b i 3 v)) (verify_final v ∷ [])
  takes_verify_final : (v : List ℕ) → (link_at b i).held ≡ 0 → Takes b i (verify_final v) (holding_vector b i 4 v) []

-- "Kinds 1 and 2 hold one identifier; 3 and 4 hold n", in every net of n bases
abbrev pub HoldsOne : Message → Type 0
HoldsOne m = (n : ℕ) → expected (kind_of m) n ≡ 1

abbrev pub HoldsList : Message → Type 0
HoldsList m = (n : ℕ) → expected (kind_of m) n ≡ n

-- the check that follows on the message makes c stop, in this state and with this final
-- list: the prime check on kinds 1 and 2, the secondary on 3 and 4
pub data Decides (c : Base) (m : Message) : ℕ → List ℕ → Type 0 where
  decides_prime : HoldsOne m → prime_holds c ≡ true → Decides c m 2 (sort (certified c))
  decides_secondary : HoldsList m → secondary_holds c (ids_of m) ≡ true → Decides c m 3 (ids_of m)

pub data Ends (b : Base) (i : ℕ) (m : Message) : Done → Type 0 where
  discarding : Ends b i m (discards b)
  running_on : {c : Base} {said : List Message} → Takes b i m c said → Ends b i m (accepts c said)
  stopping : {c : Base} {said : List Message} {state : ℕ} {v : List ℕ} → Takes b i m c said → Decides c m state v
      → Ends b i m (stops c state v said)

prime_ends : {b : Base} {i : ℕ} {m : Message} {c : Base} {said : List Message} → HoldsOne m → Takes b i m c said
    → Ends b i m (prime_check c said)
unfolding prime_check
prime_ends {b} {i} {m} {c} H T = choose_ind (Ends b i m) _ (λ e. stopping T (decides_prime H e)) (λ e. running_on T)

secondary_ends : {b : Base} {i : ℕ} {m : Message} {c : Base} {said : List Message} → HoldsList m → Takes b i m c said
    → Ends b i m (secondary_check c (ids_of m) said)
unfolding secondary_check
secondary_ends {b} {i} {m} {c} H T = choose_ind (Ends b i m) _ (λ e. stopping T (decides_secondary H e)) (λ e. running_on T)

announce_one : (g : ℕ) → HoldsOne (announce g)
unfolding kind_of expected holds_one or choose
announce_one g n = refl

verify_one : (g : ℕ) → HoldsOne (verify g)
unfolding kind_of expected holds_one or choose
verify_one g n = refl

pub correct_list : (v : List ℕ) → HoldsList (correct_final v)
unfolding kind_of expected holds_one or choose
correct_list v n = refl

pub verify_list : (v : List ℕ) → HoldsList (verify_final v)
unfolding kind_of expected holds_one or choose
verify_list v n = refl

vote_ends : (b : Base) (i : ℕ) (v : List ℕ) → (link_at b i).held ≢ 3
    → Ends b i (correct_final v) (secondary_check (vote (holding_vector b i 3 v) v).base v (vote (holding_vector b i 3 v) v).says)
unfolding vote accepts ids_of
vote_ends b i v o =
    choose_ind (λ (d : Done). Ends b i (correct_final v) (secondary_check d.base v d.says)) (votes (holding_vector b i 3 v) v)
    (λ e. secondary_ends (correct_list v) (takes_and_votes v o e)) (λ e. secondary_ends (correct_list v) (takes_correct v o e))

pub message_ends : (b : Base) (i : ℕ) (m : Message) → Ends b i m (on_message b i m)
unfolding on_message on_announce on_verify on_correct_final on_verify_final ids_of
message_ends b i (announce g) = choose_ind (Ends b i (announce g)) _ (λ _. discarding)
    (λ e. let p = or_false _ _ e in let q = or_false _ _ p.1 in prime_ends (announce_one g) (takes_announce g p.0 q.0 q.1))
message_ends b i (verify g) = choose_ind (Ends b i (verify g)) _ (λ _. discarding)
    (λ e. let p = or_false _ _ e in prime_ends (verify_one g) (takes_verify g p.0 p.1))
message_ends b i (correct_final v) =
    choose_ind (Ends b i (correct_final v)) _ (λ _. discarding) (λ e. vote_ends b i v (eqb-false (link_at b i).held 3 e))
message_ends b i (verify_final v) = choose_ind (Ends b i (verify_final v)) _ (λ _. discarding)
    (λ e. secondary_ends (verify_list v) (takes_verify_final v (eqb-true (link_at b i).held 0 (not-false _ e))))

-- a step of a base that was started first: it broadcasts the two frames of its start before
unfoldable pub after_start : Base → Done → Done
after_start b d = record { answer = d.answer; base = d.base; says = announce b.own ∷ (verify b.own ∷ d.says) }

pub start_step_cases : (P : Done → Type 0) (b : Base) → (idle b ≡ true → P (begins b)) → (idle b ≡ false → P (discards b))
    → P (start_step b)
unfolding start_step
start_step_cases P b = choose_ind P (idle b)

pub arrival_stopped : (b : Base) (i : ℕ) (m : Message) → stopped b ≡ true → arrival_step b i m ≡ discards b
unfolding arrival_step
arrival_stopped b i m e = choose_yes _ _ e

pub arrival_idle : (b : Base) (i : ℕ) (m : Message) → idle b ≡ true → arrival_step b i m ≡ after_start b (on_message (begun b) i m)
unfolding arrival_step and_then begins accepts after_start
arrival_idle b i m e = choose_no _ _ (idle_not_stopped b e) ∙ choose_yes _ _ e

running_state_lem : (b : Base) → stopped b ≡ false → idle b ≡ false → b.state ≡ 1
unfolding stopped idle
running_state_lem b p q = go b.state (leb-false 2 b.state p) (eqb-false b.state 0 q)
  where
    go : (s : ℕ) → s < 2 → s ≢ 0 → s ≡ 1
    go s h k = omega (arith, k)

pub arrival_step_cases : (P : Done → Type 0) (b : Base) (i : ℕ) (m : Message) → (stopped b ≡ true → P (discards b))
    → (idle b ≡ true → P (after_start b (on_message (begun b) i m)))
    → (b.state ≡ 1 → P (on_message b i m)) → P (arrival_step b i m)
unfolding arrival_step and_then begins accepts after_start
arrival_step_cases P b i m halted fresh on =
    choose_ind P (stopped b) halted (λ p. choose_ind P (idle b) fresh (λ q. on (running_state_lem b p q)))

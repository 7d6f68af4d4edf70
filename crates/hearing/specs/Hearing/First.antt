-- An arrival by the base's state: at a running base the message alone, at an idle one the two frames of the start and the message's
-- frame behind them.
use Rattle.std.specs.Prelude.{ℕ, ◌+◌, ◌-◌, ◌≤◌, ◌<◌, ◌≡◌, ◌≢◌, List, [], ◌∷◌, ◌++◌, eqb, length, take, get_or}
use Rattle.std.proofs.Math.Path.{refl, sym, ap}
use Rattle.std.proofs.Common.{ap₂, ◌∙◌, arith, ne_eqb, length-take}
use Rattle.std.proofs.lemmas.Bool.{lt-leb}
use Rattle.limits.specs.Limits.{most_bases, frame_bytes, output_room}
use Rattle.limits.specs.Refusals.{NetSize}
use Rattle.lists.specs.Choice.Laws.{choose_ind, choose_no}
use Rattle.frame.specs.Message.{Message, announce, verify, ids_of, expected}
use Rattle.frame.proofs.Message.Laws.{expected_range}
use Rattle.frame.specs.Reading.{message}
use Rattle.frame.specs.Encoding.{over}
use Rattle.protocol.specs.declared.Base.{Base}
use Rattle.protocol.specs.declared.Outcome.{Outcome}
use Rattle.protocol.specs.declared.Outcome.TheVariants.{Accepted, Discarded}
use Rattle.protocol.specs.Airtime.{own_slots, relayed_slots}
use Rattle.protocol.proofs.Airtime.Laws.{start_answer}
use Rattle.protocol.specs.Sound.{idle, stopped, record_refusal}
use Rattle.protocol.proofs.Sound.Laws.{record_passed}
use Rattle.protocol.specs.Steps.{Answer, accepted, discarded, refused, Done, accepts, with_state, begins, on_message, arrival_step}
use Rattle.protocol.specs.Steps.{encode_all, lengths, with_sums, outcome_with, outcome_of, output_of}
use Rattle.protocol.specs.Steps.Cases.{begun}
use Rattle.protocol.proofs.Steps.Cases.{after_start}
use Rattle.protocol.proofs.Steps.Sizes.{message_brief, said_fits}
use Rattle.change.specs.declared.Change.{Change}
use Rattle.change.specs.Change.{changed_base, Does}
use Rattle.change.specs.Heard.{message_in}
use Rattle.start_frames.specs.declared.StartSizes.{StartSizes}
use Rattle.start_frames.specs.Frames.{written_start}
use Rattle.first_message.specs.FirstMessage.{behind_start}
use Rattle.settling.specs.Settling.{within_links}
use Rattle.settling.specs.Settling.Places.{within_same}
use Rattle.hearing.specs.Hearing.Decided.Frames.{encode_append}

-- a record that is not turned down, and one of its links
pub record Ready (b : Base) (i : ℕ) : Type 0 where
  pub refusal : record_refusal b ≡ 0
  pub here : i < b.n - 1

pub ready_within : (b : Base) (i : ℕ) → Ready b i → within_links i ≡ i
ready_within b i R = within_same i (omega (arith, R.here, (record_passed b R.refusal).net.most))

-- ---- the output that a message needs
abbrev Few : ℕ → Message → Type 0
Few most m = length (ids_of m) ≤ most

message_ids : (kind : ℕ) (ids : List ℕ) (most : ℕ) → 1 ≤ most → length ids ≤ most → Few most (message kind ids)
unfolding message ids_of
message_ids kind ids most some h =
    choose_ind (Few most) (eqb kind 1) (λ _. some)
    (λ _. choose_ind (Few most) (eqb kind 2) (λ _. some) (λ _. choose_ind (Few most) (eqb kind 3) (λ _. h) (λ _. h)))

pub message_room : (b : Base) (i kind : ℕ) (ids : List ℕ) → NetSize b.n
    → length (encode_all (on_message b i (message_in b.n kind ids)).says) ≤ output_room
unfolding message_in
message_room b i kind ids N =
    let few : length (ids_of (message_in b.n kind ids)) ≤ most_bases =
    message_ids kind (take (expected kind b.n) ids) most_bases (omega arith)
    (omega (arith, length-take (expected kind b.n) ids, (expected_range kind b.n most_bases (omega (arith, N.least)) N.most).1)) in
    omega (arith, (message_brief b i (message_in b.n kind ids) N.most few).small, said_fits (message_in b.n kind ids) few)

-- ---- a base that runs
runs : (b : Base) → b.state ≡ 1 → b ≡ begun b
unfolding with_state
runs b e =
    λ j. record { n = b.n; t = b.t; state = e j; sent = b.sent; own = b.own; final_list = b.final_list; links = b.links }

pub arrival_running : (b : Base) (i : ℕ) (m : Message) → b.state < 2 → b.state ≢ 0 → arrival_step b i m ≡ on_message (begun b) i m
unfolding arrival_step stopped idle
arrival_running b i m h k =
    choose_no _ _ (lt-leb 2 b.state h) ∙ choose_no _ _ (ne_eqb b.state 0 k)
    ∙ ap (λ (x : Base). on_message x i m) (runs b (one b.state h k))
  where
    one : (s : ℕ) → s < 2 → s ≢ 0 → s ≡ 1
    one s p q = omega (arith, q)

-- ---- a base that starts first
module _ (own : ℕ) (says : List Message) (o : own_slots own says ≡ 0) where
  behind : (ends : ℕ → ℕ → ℕ → ℕ → ℕ → Outcome)
      → ends (frame_bytes 1) (frame_bytes 1) (get_or (lengths says) 0 0) 2 (relayed_slots own says)
      ≡ with_sums ends own (announce own ∷ (verify own ∷ says))
  behind ends =
      let two : 2 ≡ 2 + own_slots own says = omega (arith, o) in
      ap (λ (k : ℕ). ends (frame_bytes 1) (frame_bytes 1) (get_or (lengths says) 0 0) k (relayed_slots own says)) two
      ∙ sym (start_answer own says ends)

  behind_outcome : (a : Answer) → behind_start written_start (outcome_with own a says) ≡ outcome_with own a (announce own ∷
      (verify own ∷ says))
  unfolding behind_start outcome_with
  behind_outcome accepted = behind Accepted
  behind_outcome discarded = behind Discarded
  behind_outcome (refused r) = refl

behind_output : (b : Base) (d : Done) (output after : List ℕ) → after ≡ over (encode_all (begins b).says ++ encode_all d.says) output
    → after ≡ output_of (after_start b d) output
unfolding output_of after_start begins accepts
behind_output b d output after p =
    p ∙ ap (λ (f : List ℕ). over f output) (sym (encode_append (announce b.own ∷ (verify b.own ∷ [])) d.says))

pub behind_does : (b : Base) (d : Done) (rest c : Change) (s : StartSizes) (part done output after : List ℕ) → Does b d rest part done
    → own_slots b.own d.says ≡ 0 → s ≡ written_start
    → c.outcome ≡ behind_start s rest.outcome → changed_base b c ≡ changed_base b rest
    → after ≡ over (encode_all (begins b).says ++ encode_all d.says) output → Does b (after_start b d) c output after
behind_does b d rest c s part done output after R o e p q w = record {
  changes = record {
    outcome = p ∙ ap₂ behind_start e (R.changes.outcome ∙ ap (λ (own : ℕ). outcome_with own d.answer d.says) same)
        ∙ behind_outcome b.own d.says o d.answer ∙ answers;
    base = q ∙ R.changes.base ∙ base;
  };
  written = behind_output b d output after w;
}
  where
    same : d.base.own ≡ b.own
    same = unfold changed_base in sym (ap (λ (x : Base). x.own) R.changes.base)

    answers : outcome_with b.own d.answer (announce b.own ∷ (verify b.own ∷ d.says)) ≡ outcome_of (after_start b d)
    answers = unfold after_start in
        ap (λ (own : ℕ). outcome_with own d.answer (announce b.own ∷ (verify b.own ∷ d.says))) (sym same)

    base : d.base ≡ (after_start b d).base
    base = unfold after_start in refl

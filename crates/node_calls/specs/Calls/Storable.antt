-- What the calls of a base answer and broadcast fits where the program keeps it: three frames at most, each in its place, all of
-- them in the output; and a call that is turned down changes nothing. So what is taken from the output are the frames that the call
-- broadcast.
use Rattle.std.specs.Prelude.{ℕ, ◌+◌, ◌^◌, ◌≤◌, ◌≡◌, refl, List, [], ◌∷◌, ◌++◌, length}
use Rattle.std.proofs.Common.{arith}
use Rattle.limits.specs.Limits.{most_bases, longest_frame, output_room}
use Rattle.lists.specs.Lists.{Below}
use Rattle.frame.specs.Message.{Message, announce, verify, correct_final, verify_final, ids_of}
use Rattle.frame.specs.Encoding.{encode}
use Rattle.protocol.specs.declared.Base.{Base}
use Rattle.protocol.specs.Record.Memory.{Sized}
use Rattle.protocol.proofs.Sound.Laws.{record_passed}
use Rattle.protocol.specs.Steps.{
  accepted,
  discarded,
  refused,
  Done,
  refuses,
  discards,
  accepts,
  with_state,
  stops,
  begins,
  start,
  arrival_step,
  encode_all,
}
use Rattle.protocol.proofs.Steps.Answers.{Unchanged}
use Rattle.protocol.specs.Steps.Cases.{begun}
use Rattle.protocol.proofs.Steps.Cases.{Takes, takes_announce, takes_verify, takes_correct, takes_and_votes, takes_verify_final, Ends}
use Rattle.protocol.proofs.Steps.Cases.{discarding, running_on, stopping, message_ends, after_start, start_step_cases, arrival_step_cases}
use Rattle.protocol.proofs.Steps.Laws.{takes_rest}
use Rattle.protocol.proofs.Steps.Output.{start_step_brief, arrival_step_brief}
use Rattle.protocol.proofs.Steps.Refusals.{Heard, start_cases}
use Rattle.protocol.proofs.Steps.Sizes.{length_encode, Brief, valid_fits, decides_fits}
use Rattle.hearing.specs.Hearing.{message_arrival}
use Rattle.hearing.specs.Hearing.Valid.{message_heard, message_cases}

-- ---- each frame fits in its place
abbrev pub AllShort : List Message → Type 0
AllShort [] = Unit {0}
AllShort (m ∷ says) = (length (encode m) ≤ longest_frame) × AllShort says

short : (m : Message) → length (ids_of m) ≤ most_bases → length (encode m) ≤ longest_frame
short m h = omega (arith, length_encode m)

short_append : (a b : List Message) → AllShort a → AllShort b → AllShort (a ++ b)
short_append [] b p q = q
short_append (m ∷ a) b p q = (p.0, short_append a b p.1 q)

takes_short : {b : Base} {i : ℕ} {m : Message} {c : Base} {said : List Message}
    → length (ids_of m) ≤ most_bases → Takes b i m c said → AllShort said
unfolding ids_of
takes_short h (takes_announce g p q r) = (short (verify g) (omega arith), tt)
takes_short h (takes_verify g p q) = tt
takes_short h (takes_correct v o p) = tt
takes_short h (takes_and_votes v o p) = (short (verify_final v) h, tt)
takes_short h (takes_verify_final v o) = tt

-- ---- an answer that is not a refusal
abbrev Answered : Done → Type 0
Answered d = (r : ℕ) → d.answer ≡ refused r → ⊥

accepted_answer : (r : ℕ) → accepted ≡ refused r → ⊥
accepted_answer r e = let z : ◌≡◌ {A = ℕ} 0 1 = cc in omega arith

discarded_answer : (r : ℕ) → discarded ≡ refused r → ⊥
discarded_answer r e = let z : ◌≡◌ {A = ℕ} 0 1 = cc in omega arith

record Stepped (d : Done) : Type 0 where
  small : AllShort d.says
  answered : Answered d

discards_stepped : (b : Base) → Stepped (discards b)
unfolding discards
discards_stepped b = record { small = tt; answered = discarded_answer }

ends_stepped : {b : Base} {i : ℕ} {m : Message} {d : Done} → b.n ≤ most_bases → length (ids_of m) ≤ most_bases → Ends b i m d → Stepped d
unfolding accepts stops ids_of
ends_stepped {b} n h discarding = discards_stepped b
ends_stepped n h (running_on T) = record { small = takes_short h T; answered = accepted_answer }
ends_stepped n h (stopping {c = c} {said = said} {v = v} T D) = record {
  small = short_append said (correct_final v ∷ [])
      (takes_short h T) (short (correct_final v) (decides_fits (omega (arith, (takes_rest T).setting.n)) h D), tt);
  answered = accepted_answer;
}

own_short : (own : ℕ) (says : List Message) → AllShort says → AllShort (announce own ∷ (verify own ∷ says))
unfolding ids_of
own_short own says p = (short (announce own) (omega arith), (short (verify own) (omega arith), p))

begins_stepped : (b : Base) → Stepped (begins b)
unfolding begins accepts
begins_stepped b = record { small = own_short b.own [] tt; answered = accepted_answer }

after_start_stepped : (b : Base) (d : Done) → Stepped d → Stepped (after_start b d)
unfolding after_start
after_start_stepped b d S = record { small = own_short b.own d.says S.small; answered = S.answered }

arrival_stepped : (b : Base) (i : ℕ) (m : Message) → Heard b i m → Stepped (arrival_step b i m)
arrival_stepped b i m H =
    let n = (record_passed b H.refusal).net.most in
    let h = valid_fits b m H.refusal H.valid in
    arrival_step_cases Stepped b i m (λ _. discards_stepped b) (λ _. after_start_stepped b _
    (ends_stepped {b = begun b} (unfold with_state in n) h (message_ends (begun b) i m))) (λ _. ends_stepped n h (message_ends b i m))

-- ---- the calls
-- what a call broadcasts has room where the program keeps it, and a call that is turned down changes nothing
pub record Storable (b : Base) (d : Done) : Type 0 where
  pub brief : Brief 3 output_room d
  pub small : AllShort d.says
  pub down : (r : ℕ) → d.answer ≡ refused r → Unchanged b d

refuses_storable : (b : Base) (r : ℕ) → Storable b (refuses b r)
unfolding refuses encode_all
refuses_storable b r = record {
  brief = record { few = omega arith; small = omega arith };
  small = tt;
  down = λ _ _. record { base = refl; says = refl };
}

stepped_storable : (b : Base) (d : Done) → Brief 3 output_room d → Stepped d → Storable b d
stepped_storable b d B S = record { brief = B; small = S.small; down = λ r e. absurd (S.answered r e) }

heard_storable : (b : Base) (i : ℕ) (m : Message) → Sized b → Heard b i m → Storable b (arrival_step b i m)
heard_storable b i m S H = stepped_storable b _ (arrival_step_brief b i m S H) (arrival_stepped b i m H)

pub start_storable : (b : Base) (room : ℕ) → Storable b (start b room)
start_storable b room = start_cases (Storable b) b room (λ r _. refuses_storable b r)
    (λ _. stepped_storable b _ (start_step_brief b) (start_step_cases Stepped b (λ _. begins_stepped b) (λ _. discards_stepped b)))

pub message_storable : (b : Base) (link number kind : ℕ) (ids : List ℕ) (room : ℕ)
    → Sized b → length ids ≡ most_bases → Below (2 ^ 32) ids → Storable b (message_arrival b link number kind ids room)
message_storable b link number kind ids room S l words = message_cases b link number kind ids room (Storable b) (refuses_storable b)
    (λ e. heard_storable b _ _ S (message_heard b link number kind ids room l words e))

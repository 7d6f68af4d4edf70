-- "A call broadcasts at most three frames, one after another in the output, 136 bytes at most." "Its answer is accepted or discarded, with
-- each frame's length" (document 01, "The steps"). A running base broadcasts two frames at most (Sizes). An idle one broadcasts the two
-- short frames of its start, and its first message cannot stop it, so that one short frame at most follows (First).
use Rattle.std.specs.Prelude.{ℕ, zero, suc, ◌+◌, ◌*◌, ◌≤◌, ◌≡◌, true, List, [], ◌∷◌, ◌++◌, map, length, get_or}
use Rattle.std.proofs.Math.Path.{refl}
use Rattle.std.proofs.Common.{sym, ◌∙◌, subst, arith, length-append}
use Rattle.limits.specs.Limits.{frame_bytes, output_room}
use Rattle.lists.specs.Choice.Laws.{clash}
use Rattle.protocol.specs.Net.{call_refusal}
use Rattle.lists.specs.Lists.{Below, pad_to}
use Rattle.frame.specs.Message.{Message, announce, verify, ids_of}
use Rattle.frame.specs.Encoding.{encode}
use Rattle.protocol.specs.declared.Base.{Base}
use Rattle.protocol.specs.Record.Memory.{Sized}
use Rattle.protocol.specs.Sound.{idle, record_refusal}
use Rattle.protocol.proofs.Sound.Laws.{record_passed, sound_parts, idle_unsent}
use Rattle.protocol.specs.Steps.{Done, refuses, discards, accepts, with_state, on_message, begins}
use Rattle.protocol.specs.Steps.{start_step, start, arrival_step, arrival, encode_all, lengths}
use Rattle.protocol.specs.Steps.Cases.{begun}
use Rattle.protocol.proofs.Steps.Cases.{after_start, arrival_idle, start_step_cases, arrival_step_cases}
use Rattle.protocol.proofs.Steps.Refusals.{Heard, arrival_heard, start_cases, start_answered, arrival_cases, arrival_answered}
use Rattle.protocol.proofs.Steps.Sizes.{Brief, bytes_append, bytes_one, said_fits, valid_fits, message_brief}
use Rattle.protocol.proofs.Steps.First.{Quiet, idle_first}

-- ---- steps
discards_brief : (b : Base) → Brief 3 output_room (discards b)
unfolding discards encode_all
discards_brief b = record { few = omega arith; small = omega arith }

refuses_brief : (b : Base) (r : ℕ) → Brief 3 output_room (refuses b r)
unfolding refuses encode_all
refuses_brief b r = record { few = omega arith; small = omega arith }

-- the two frames of a start
start_bytes : (own : ℕ) (says : List Message)
    → length (encode_all (announce own ∷ (verify own ∷ says))) ≡ 2 * frame_bytes 1 + length (encode_all says)
unfolding ids_of
start_bytes own says = omega (
  arith,
  bytes_append (announce own ∷ []) (verify own ∷ says),
  bytes_append (verify own ∷ []) says,
  bytes_one (announce own),
  bytes_one (verify own),
)

pub begins_bytes : (b : Base) → length (encode_all (begins b).says) ≡ 2 * frame_bytes 1
unfolding begins accepts
begins_bytes b = omega (arith, start_bytes b.own [], nothing)
  where
    nothing : length (encode_all []) ≡ 0
    nothing = unfold encode_all in refl

pub start_step_brief : (b : Base) → Brief 3 output_room (start_step b)
start_step_brief b = start_step_cases (Brief 3 output_room) b
    (λ _. record { few = unfold begins accepts in omega arith; small = omega (arith, begins_bytes b) }) (λ _. discards_brief b)

-- an idle base's first call leaves it running, with a vote still to give
pub record Started (d : Done) : Type 0 where
  pub runs : d.base.state ≡ 1
  pub unsent : d.base.sent ≡ 0
  pub few : length d.says ≤ 3
  pub small : length (encode_all d.says) ≤ 3 * frame_bytes 1

after_quiet : (b : Base) (d : Done) → b.sent ≡ 0 → Quiet (begun b) d → Started (after_start b d)
unfolding after_start with_state
after_quiet b d e Q = record {
  runs = Q.state;
  unsent = Q.sent ∙ e;
  few = omega (arith, Q.brief.few);
  small = omega (arith, Q.brief.small, start_bytes b.own d.says);
}

pub first_arrival_step : (b : Base) (i : ℕ) (m : Message) → Sized b → idle b ≡ true → Heard b i m → Started (arrival_step b i m)
first_arrival_step b i m S off H =
    subst Started (sym (arrival_idle b i m off))
    (after_quiet b (on_message (begun b) i m) (idle_unsent b (sound_parts b (record_passed b H.refusal).sound).idle off)
    (idle_first b S H.refusal off i H.place m))

pub arrival_step_brief : (b : Base) (i : ℕ) (m : Message) → Sized b → Heard b i m → Brief 3 output_room (arrival_step b i m)
arrival_step_brief b i m S H = arrival_step_cases (Brief 3 output_room) b i m (λ _. discards_brief b) fresh (λ _. on)
  where
    fresh : idle b ≡ true → Brief 3 output_room (after_start b (on_message (begun b) i m))
    fresh off = subst (Brief 3 output_room) (arrival_idle b i m off)
        (let F = first_arrival_step b i m S off H in record { few = F.few; small = omega (arith, F.small) })

    on : Brief 3 output_room (on_message b i m)
    on =
        let k = valid_fits b m H.refusal H.valid in
        let B = message_brief b i m (record_passed b H.refusal).net.most k in
        record { few = omega (arith, B.few); small = omega (arith, B.small, said_fits m k) }

-- ---- the calls
pub start_brief : (b : Base) (room : ℕ) → Brief 3 output_room (start b room)
start_brief b room = start_cases (Brief 3 output_room) b room (λ r _. refuses_brief b r) (λ _. start_step_brief b)

pub arrival_brief : (b : Base) (link : ℕ) (burst : List ℕ) (room : ℕ) → Sized b → Below 256 burst
    → Brief 3 output_room (arrival b link burst room)
arrival_brief b link burst room S bytes = arrival_cases (Brief 3 output_room) b link burst room (λ r _. refuses_brief b r)
    (λ e. arrival_step_brief b _ _ S (arrival_heard b link burst room bytes e))

-- "An idle base starts first": its first call that is not turned down cannot stop it
pub first_start : (b : Base) (room : ℕ) → idle b ≡ true → call_refusal (start b room).answer ≡ 0 → Started (start b room)
first_start b room off = start_answered Started b room (λ e. start_step_cases Started b (λ _. begins_started e) (λ on. clash off on))
  where
    begins_started : record_refusal b ≡ 0 → Started (begins b)
    begins_started e = record {
      runs = unfold begins accepts with_state in refl;
      unsent = unfold begins accepts with_state in idle_unsent b (sound_parts b (record_passed b e).sound).idle off;
      few = unfold begins accepts in omega arith;
      small = omega (arith, begins_bytes b);
    }

pub first_arrival : (b : Base) (link : ℕ) (burst : List ℕ) (room : ℕ) → Sized b → Below 256 burst → idle b ≡ true
    → call_refusal (arrival b link burst room).answer ≡ 0 → Started (arrival b link burst room)
first_arrival b link burst room S bytes off =
    arrival_answered Started b link burst room (λ e. first_arrival_step b _ _ S off (arrival_heard b link burst room bytes e))

-- ---- the lengths answered
-- the k-th is that of the k-th frame, and zero for none
pub length_answered : (says : List Message) (k : ℕ) → get_or (lengths says) k 0 ≡ length (get_or (map encode says) k [])
unfolding lengths
length_answered [] k = refl
length_answered (m ∷ says) zero = refl
length_answered (m ∷ says) (suc k) = length_answered says k

-- none is left out, and together they are the bytes written
pub lengths_whole : (says : List Message) → length says ≤ 3
    → pad_to 3 (lengths says) ≡ get_or (lengths says) 0 0 ∷ (get_or (lengths says) 1 0 ∷ (get_or (lengths says) 2 0 ∷ []))
unfolding lengths pad_to
lengths_whole [] h = refl
lengths_whole (a ∷ []) h = refl
lengths_whole (a ∷ (b ∷ [])) h = refl
lengths_whole (a ∷ (b ∷ (c ∷ []))) h = refl
lengths_whole (a ∷ (b ∷ (c ∷ (d ∷ says)))) h = absurd (omega arith)

pub lengths_sum : (says : List Message) → length says ≤ 3
    → get_or (lengths says) 0 0 + get_or (lengths says) 1 0 + get_or (lengths says) 2 0 ≡ length (encode_all says)
unfolding lengths encode_all
lengths_sum [] h = refl
lengths_sum (a ∷ []) h = omega (arith, length-append (encode a) [])
lengths_sum (a ∷ (b ∷ [])) h = omega (arith, length-append (encode a) (encode b ++ []), length-append (encode b) [])
lengths_sum (a ∷ (b ∷ (c ∷ []))) h = omega (
  arith,
  length-append (encode a) (encode b ++ (encode c ++ [])),
  length-append (encode b) (encode c ++ []),
  length-append (encode c) [],
)
lengths_sum (a ∷ (b ∷ (c ∷ (d ∷ says)))) h = absurd (omega arith)

-- What a running base broadcasts on one message: two frames at most, one as it takes the message
-- in, and a Correct-Final if it then stops. How many bytes that can be, for each kind of message.
use Rattle.std.specs.Prelude.{ℕ, ◌+◌, ◌≤◌, ◌≡◌, List, [], ◌∷◌, ◌++◌, length}
use Rattle.std.proofs.Common.{arith, length-append}
use Rattle.limits.specs.Limits.{most_bases, frame_bytes, longest_frame, output_room}
use Rattle.lists.specs.Lists.Sorted.{length_sort}
use Rattle.frame.specs.Message.{Message, announce, verify, correct_final, verify_final, kind_of, ids_of, Valid}
use Rattle.frame.specs.Encoding.{encode}
use Rattle.frame.proofs.Encoding.Laws.{length_frame}
use Rattle.protocol.specs.declared.Base.{Base}
use Rattle.protocol.specs.Record.{certified}
use Rattle.protocol.specs.Sound.{record_refusal}
use Rattle.protocol.proofs.Sound.Laws.{record_passed}
use Rattle.frame.proofs.Message.Laws.{expected_range}
use Rattle.protocol.specs.Steps.{Done, discards, accepts, stops, on_announce}
use Rattle.protocol.specs.Steps.{on_verify, on_correct_final, on_verify_final, on_message, encode_all}
use Rattle.protocol.proofs.Steps.Cases.{Takes, takes_announce, takes_verify, takes_correct, takes_and_votes, takes_verify_final, Decides}
use Rattle.protocol.proofs.Steps.Cases.{decides_prime, decides_secondary, Ends, discarding, running_on, stopping, message_ends}
use Rattle.protocol.proofs.Steps.Checks.{prime_parts}
use Rattle.protocol.proofs.Steps.Laws.{takes_rest}

-- ---- the bytes of messages one after another
pub length_encode : (m : Message) → length (encode m) ≡ frame_bytes (length (ids_of m))
unfolding encode
length_encode m = length_frame (kind_of m) (ids_of m)

pub bytes_append : (a b : List Message) → length (encode_all (a ++ b)) ≡ length (encode_all a) + length (encode_all b)
unfolding encode_all
bytes_append [] b = omega arith
bytes_append (m ∷ a) b =
    omega (arith, length-append (encode m) (encode_all (a ++ b)), bytes_append a b, length-append (encode m) (encode_all a))

pub bytes_one : (m : Message) → length (encode_all (m ∷ [])) ≡ frame_bytes (length (ids_of m))
unfolding encode_all
bytes_one m = omega (arith, length-append (encode m) [], length_encode m)

-- ---- at most so many frames and so many bytes
pub record Brief (frames bytes : ℕ) (d : Done) : Type 0 where
  pub few : length d.says ≤ frames
  pub small : length (encode_all d.says) ≤ bytes

-- what is broadcast as a message is taken in
unfoldable pub said_room : Message → ℕ
said_room (announce g) = frame_bytes 1
said_room (verify g) = 0
said_room (correct_final v) = frame_bytes (length v)
said_room (verify_final v) = 0

pub takes_said : {b : Base} {i : ℕ} {m : Message} {c : Base} {said : List Message} → Takes b i m c said
    → (length said ≤ 1) × (length (encode_all said) ≤ said_room m)
unfolding said_room ids_of encode_all
takes_said (takes_announce g p q r) = (omega arith, omega (arith, bytes_one (verify g)))
takes_said (takes_verify g p q) = (omega arith, omega arith)
takes_said (takes_correct v o p) = (omega arith, omega arith)
takes_said (takes_and_votes v o p) = (omega arith, omega (arith, bytes_one (verify_final v)))
takes_said (takes_verify_final v o) = (omega arith, omega arith)

pub said_fits : (m : Message) → length (ids_of m) ≤ most_bases → said_room m ≤ longest_frame
unfolding said_room ids_of
said_fits (announce g) h = omega arith
said_fits (verify g) h = omega arith
said_fits (correct_final v) h = omega arith
said_fits (verify_final v) h = omega arith

-- a valid message has at most as many identifiers as a net can have bases
pub valid_fits : (b : Base) (m : Message) → record_refusal b ≡ 0 → Valid b.n m → length (ids_of m) ≤ most_bases
valid_fits b m e w =
    let N = (record_passed b e).net in
    omega (arith, w.count, (expected_range (kind_of m) b.n most_bases (omega (arith, N.least)) N.most).1)

-- the list that becomes final fits in a frame
pub decides_fits : {c : Base} {m : Message} {state : ℕ} {v : List ℕ} → c.n ≤ most_bases → length (ids_of m) ≤ most_bases
    → Decides c m state v
    → length v ≤ most_bases
decides_fits {c} h k (decides_prime H e) = omega (arith, length_sort (certified c), (prime_parts c e).count)
decides_fits h k (decides_secondary H e) = k

ends_brief : {b : Base} {i : ℕ} {m : Message} {d : Done} → b.n ≤ most_bases → length (ids_of m) ≤ most_bases → Ends b i m d
    → Brief 2 (said_room m + longest_frame) d
unfolding discards accepts stops encode_all ids_of
ends_brief h k discarding = record { few = omega arith; small = omega arith }
ends_brief h k (running_on T) = let s = takes_said T in record { few = omega arith; small = omega arith }
ends_brief h k (stopping {c = c} {said = said} {v = v} T D) =
    let s = takes_said T in
    let f = decides_fits (omega (arith, (takes_rest T).setting.n)) k D in
    record {
      few = omega (arith, length-append said (correct_final v ∷ []));
      small = omega (arith, bytes_append said (correct_final v ∷ []), bytes_one (correct_final v));
    }

pub message_brief : (b : Base) (i : ℕ) (m : Message) → b.n ≤ most_bases → length (ids_of m) ≤ most_bases
    → Brief 2 (said_room m + longest_frame) (on_message b i m)
message_brief b i m h k = ends_brief h k (message_ends b i m)

-- ---- the same for each kind of message
pub announce_bytes : (b : Base) (i g : ℕ) → b.n ≤ most_bases → length (encode_all (on_announce b i g).says) ≤ frame_bytes 1 + longest_frame
unfolding said_room on_message ids_of
announce_bytes b i g h = (message_brief b i (announce g) h (omega arith)).small

pub verify_bytes : (b : Base) (i g : ℕ) → b.n ≤ most_bases → length (encode_all (on_verify b i g).says) ≤ longest_frame
unfolding said_room on_message ids_of
verify_bytes b i g h = (message_brief b i (verify g) h (omega arith)).small

pub correct_bytes : (b : Base) (i : ℕ) (v : List ℕ) → b.n ≤ most_bases → length v ≤ most_bases
    → length (encode_all (on_correct_final b i v).says) ≤ output_room
unfolding said_room on_message ids_of
correct_bytes b i v h k = let s = (message_brief b i (correct_final v) h k).small in omega arith

pub verify_final_bytes : (b : Base) (i : ℕ) (v : List ℕ) → b.n ≤ most_bases → length v ≤ most_bases
    → length (encode_all (on_verify_final b i v).says) ≤ longest_frame
unfolding said_room on_message ids_of
verify_final_bytes b i v h k = (message_brief b i (verify_final v) h k).small

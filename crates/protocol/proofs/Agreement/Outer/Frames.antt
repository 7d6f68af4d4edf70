-- The log of a base in frames, against the log in messages: the frame of each number is the encoding of the message of that number, it
-- reads back as that message, and a frame of kind 3 is there exactly if a Correct-Final was said.
use Rattle.std.specs.Prelude.{ℕ, zero, suc, ◌≤◌, ◌<◌, ◌≡◌, refl, ◌⊎◌, eqb, length, get_or}
use Rattle.std.proofs.Common.{sym, ◌∙◌, inl, inr, arith}
use Rattle.std.proofs.Math.Path.{ap}
use Rattle.std.proofs.Math.Bool.{true}
use mathlib.Core.List.Memᴰ
use mathlib.Core.List.{List, [], ◌∷◌, ◌++◌, map}
use borrow.Author.Tests.{eqb-true, eq-eqb}
use Rattle.limits.specs.Limits.{most_bases, longest_burst}
use Rattle.limits.specs.Refusals.{NetSize, net_refusal}
use Rattle.lists.specs.Choice.{or}
use Rattle.lists.specs.Choice.Laws.{or_second, or_true, first_passed}
use Rattle.frame.specs.Message.{Message, announce, verify, correct_final, verify_final, kind_of, ids_of, Valid}
use Rattle.frame.proofs.Message.Laws.{expected_range}
use Rattle.frame.specs.Encoding.{encode}
use Rattle.frame.proofs.Encoding.Laws.{length_frame}
use Rattle.frame.specs.Reading.{kind_byte, message_of, burst_refusal, read_refusal}
use Rattle.frame.proofs.Reading.Laws.{kind_is}
use Rattle.frame.proofs.Reading.Theorems.{read_after_write}
use Rattle.protocol.specs.Net.{says_correct}
use Rattle.protocol.proofs.Agreement.Cases.{impossible}
use Rattle.protocol.specs.Agreement.Views.{Said}
use Rattle.protocol.specs.Agreement.Invariant.{broadcast_at}

-- ---- logs of frames
pub map_append : (a b : List Message) → map encode (a ++ b) ≡ map encode a ++ map encode b
map_append [] b = refl
map_append (m ∷ a) b = ap (λ l. encode m ∷ l) (map_append a b)

pub length_encoded : (log : List Message) → length (map encode log) ≡ length log
length_encoded [] = refl
length_encoded (m ∷ log) = ap suc (length_encoded log)

pub frame_encoded : (log : List Message) (k : ℕ) → k < length log → get_or (map encode log) k [] ≡ encode (broadcast_at log k)
frame_encoded [] k h = absurd (omega arith)
frame_encoded (m ∷ log) zero h = refl
frame_encoded (m ∷ log) (suc k) h = frame_encoded log k (omega arith)

pub said_at : (log : List Message) (k : ℕ) → k < length log → Said (broadcast_at log k) log
said_at [] k h = absurd (omega arith)
said_at (m ∷ log) zero h = Memᴰ.head refl
said_at (m ∷ log) (suc k) h = Memᴰ.tail (said_at log k (omega arith))

-- ---- a valid message
module _ (n : ℕ) (N : NetSize n) (m : Message) (w : Valid n m) where
  few_identifiers : length (ids_of m) ≤ most_bases
  few_identifiers = omega (arith, w.count, (expected_range (kind_of m) n most_bases (omega (arith, N.least)) N.most).1)

  pub encoded_fits : length (encode m) ≤ longest_burst
  unfolding encode
  encoded_fits = omega (arith, length_frame (kind_of m) (ids_of m), few_identifiers)

  pub reads_back : message_of (encode m) ≡ m
  reads_back = (read_after_write n N [] m w encoded_fits).same_message

  pub encoded_accepted : burst_refusal n (encode m) ≡ 0
  encoded_accepted = go (read_after_write n N [] m w encoded_fits).accepted
    where
      go : read_refusal n (encode m) ≡ 0 → burst_refusal n (encode m) ≡ 0
      go e = unfold read_refusal in (first_passed (net_refusal n) (burst_refusal n (encode m)) e).1

  pub kind_written : kind_byte (encode m) ≡ kind_of m
  unfolding encode
  kind_written = kind_is [] (kind_of m) (ids_of m) few_identifiers

-- ---- "It has stopped once it has broadcast a Correct-Final"
kind_correct_final : (m : Message) → kind_of m ≡ 3 → (v : List ℕ) × (m ≡ correct_final v)
unfolding kind_of
kind_correct_final (announce g) e = absurd (omega arith)
kind_correct_final (verify g) e = absurd (omega arith)
kind_correct_final (correct_final v) e = (v, refl)
kind_correct_final (verify_final v) e = absurd (omega arith)

module _ (n : ℕ) (N : NetSize n) where
  pub says_said : (log : List Message) → ((m : Message) → Said m log → Valid n m) → says_correct (map encode log) ≡ true
      → (v : List ℕ) × Said (correct_final v) log
  unfolding says_correct
  says_said [] valid h = impossible (cc)
  says_said (m ∷ log) valid h =
      go (or_true (eqb (kind_byte (encode m)) 3) (says_correct (map encode log)) h) (λ k. says_said log (λ z s. valid z (Memᴰ.tail s)) k)
    where
      go : (eqb (kind_byte (encode m)) 3 ≡ true) ⊎ (says_correct (map encode log) ≡ true)
          → (says_correct (map encode log) ≡ true → (v : List ℕ) × Said (correct_final v) log)
          → (v : List ℕ) × Said (correct_final v) (m ∷ log)
      go (inl e) rest =
          let w = kind_correct_final m (sym (kind_written n N m (valid m (Memᴰ.head refl))) ∙ eqb-true (kind_byte (encode m)) 3 e) in
          (w.0, Memᴰ.head (sym w.1))
      go (inr e) rest = let w = rest e in (w.0, Memᴰ.tail w.1)

  pub said_says : {v : List ℕ} {log : List Message} → ((m : Message) → Said m log → Valid n m) → Said (correct_final v) log
      → says_correct (map encode log) ≡ true
  unfolding says_correct or
  said_says {v} valid (Memᴰ.head {x} {xs} e) =
      rw (eq-eqb (kind_byte (encode x)) 3 (kind_written n N x (valid x (Memᴰ.head refl)) ∙ ap kind_of (sym e) ∙ (unfold kind_of in refl)))
  said_says {v} valid (Memᴰ.tail {x} {xs} h) =
      or_second (eqb (kind_byte (encode x)) 3) (said_says (λ z s. valid z (Memᴰ.tail s)) h)

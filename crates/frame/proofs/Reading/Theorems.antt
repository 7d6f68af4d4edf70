-- Frames that are written read back as the same message, and nothing else is accepted. Shown for every n of a net.
-- A slice of bytes holds numbers below 256; in a list that is said beside it (`Below 256 s`), since a list may hold any numbers.
use Rattle.std.specs.Prelude.{ℕ, ◌+◌, ◌^◌, ◌≤◌, ◌≡◌, ◌⊎◌, ◌↔◌, get_or}
use Rattle.std.proofs.Math.Path.{refl, ap, ap₂, subst}
use Rattle.std.proofs.Common.{sym, ◌∙◌, inl, inr, arith}
use Rattle.std.proofs.Math.Bool.{not}
use mathlib.Core.List.{List, [], ◌∷◌, ◌++◌}
use borrow.Author.Tests.{le-ltb, eq-eqb}
use Rattle.std.proofs.Math.ListN.{length}
use Rattle.limits.specs.Limits.{most_bases, frame_bytes, shortest_burst, longest_burst}
use Rattle.limits.specs.Refusals.{net_refusal, NetSize}
use Rattle.limits.specs.Refusals.Laws.{net_passes}
use Rattle.lists.specs.Choice.{choose, or, first}
use Rattle.lists.specs.Choice.Laws.{passes, or_neither, first_none, first_passed}
use Rattle.lists.specs.Lists.{nonzero, ascending, Below}
use Rattle.frame.specs.Message.{Message, announce, verify, correct_final, verify_final, kind_of, ids_of, holds_one, known, expected, Valid}
use Rattle.frame.proofs.Message.Laws.{known_kind, known_is, Kind, expected_range, expected_cases}
use Rattle.frame.specs.Encoding.{body, frame_of, encode}
use Rattle.frame.proofs.Encoding.Laws.{length_frame}
use Rattle.frame.specs.Reading.{kind_byte, count_byte, back_distance, body_of, body_start, preamble, identifiers, ids_in, length_refusal}
use Rattle.frame.specs.Reading.{kind_refusal, distance_refusal, trailer_refusal, list_refusal, burst_refusal, read_refusal, message}
use Rattle.frame.specs.Reading.{message_of}
use Rattle.frame.proofs.Reading.Laws.{length_burst, kind_is, count_is, back_is, start_is, body_is, ids_are, kind_passes}
use Rattle.frame.proofs.Reading.Laws.{trailer_passed, list_passed, passed_framed, burst_of, length_ids_in, below_ids_in}

-- ---- sizes
-- every encoding is 8 or 4n + 4 bytes
pub encoding_size : (n : ℕ) (m : Message) → Valid n m → (length (encode m) ≡ frame_bytes 1) ⊎ (length (encode m) ≡ frame_bytes n)
unfolding encode
encoding_size n m v =
    let e = length_frame (kind_of m) (ids_of m) ∙ ap frame_bytes v.count in
    elim (expected_cases (kind_of m) n) [ inl p ↦ inl (e ∙ ap frame_bytes p) | inr p ↦ inr (e ∙ ap frame_bytes p) ]

-- ---- read after write
-- a message, behind a preamble with which it fits, is read as that message and its body
pub record ReadsBack (n : ℕ) (pre : List ℕ) (m : Message) : Type 0 where
  pub accepted : read_refusal n (pre ++ encode m) ≡ 0
  pub same_message : message_of (pre ++ encode m) ≡ m
  pub same_body : body_of (pre ++ encode m) ≡ body (ids_of m)
  pub body_place : body_start (pre ++ encode m) ≡ length pre

-- a valid message has a kind that there is, and its count
pub message_kind : (n : ℕ) (m : Message) → Valid n m → kind_refusal n (kind_of m) (length (ids_of m)) ≡ 0
message_kind n m v = kind_passes n (kind_of m) (length (ids_of m)) (known_kind m) v.count

message_parts : (m : Message) → message (kind_of m) (ids_of m) ≡ m
unfolding message kind_of ids_of choose
message_parts (announce g) = refl
message_parts (verify g) = refl
message_parts (correct_final v) = refl
message_parts (verify_final v) = refl

module _ (n : ℕ) (N : NetSize n) (pre : List ℕ) (m : Message) (v : Valid n m) (fit : length (pre ++ encode m) ≤ longest_burst) where
  range : (1 ≤ length (ids_of m)) × (length (ids_of m) ≤ most_bases)
  range =
      let r = expected_range (kind_of m) n most_bases (omega (arith, N.least)) N.most in
      (omega (arith, r.0, v.count), omega (arith, r.1, v.count))

  abbrev s : List ℕ
  s = pre ++ frame_of (kind_of m) (ids_of m)

  trailer_passes : trailer_refusal n s ≡ 0
  unfolding trailer_refusal length_refusal distance_refusal encode
  trailer_passes =
      let len = length_burst pre (kind_of m) (ids_of m) range.1 in
      let kind = kind_is pre (kind_of m) (ids_of m) range.1 in
      let count = count_is pre (kind_of m) (ids_of m) range.1 in
      let back = back_is pre (kind_of m) (ids_of m) range.1 in
      let long = le-ltb (length s) shortest_burst (omega (arith, len, range.0)) in
      let distance = eq-eqb (back_distance s) (frame_bytes (count_byte s)) (back ∙ ap frame_bytes (sym count)) in
      first_none _ (passes 7 (or_neither long (le-ltb longest_burst (length s) fit)) refl)
      ∙ first_none _ (ap₂ (kind_refusal n) kind count ∙ message_kind n m v)
      ∙ passes 10 (or_neither (ap not distance) (le-ltb (length s) (back_distance s) (omega (arith, back, len)))) refl

  list_passes : list_refusal (ids_in s) ≡ 0
  unfolding list_refusal
  list_passes =
      let ids = ids_are pre (kind_of m) (ids_of m) range.1 v.words in
      passes 11 (ap not (ap nonzero ids ∙ v.above_zero)) (passes 12 (ap not (ap ascending ids ∙ v.ascends)) refl)

  pub read_after_write : ReadsBack n pre m
  unfolding encode read_refusal burst_refusal message_of
  read_after_write = record {
    accepted =
        first_none (first (trailer_refusal n s) (list_refusal (ids_in s))) (net_passes N)
        ∙ first_none (list_refusal (ids_in s)) trailer_passes
        ∙ list_passes;
    same_message =
        ap₂ message (kind_is pre (kind_of m) (ids_of m) range.1) (ids_are pre (kind_of m) (ids_of m) range.1 v.words)
        ∙ message_parts m;
    same_body = body_is pre (kind_of m) (ids_of m) range.1;
    body_place = start_is pre (kind_of m) (ids_of m) range.1;
  }

-- ---- the other way round
one_identifier : (ids : List ℕ) → length ids ≡ 1 → get_or ids 0 0 ∷ [] ≡ ids
one_identifier [] e = absurd (omega arith)
one_identifier (x ∷ []) e = refl
one_identifier (x ∷ (y ∷ l)) e = absurd (omega arith)

-- a known kind and as many identifiers as it holds are those of the message that they make
pub parts_message : (kind n : ℕ) (ids : List ℕ) → Kind kind → length ids ≡ expected kind n
    → (kind_of (message kind ids) ≡ kind) × (ids_of (message kind ids) ≡ ids)
unfolding message kind_of ids_of choose expected holds_one or
parts_message kind n ids (inl e) h = rw e (refl, one_identifier ids (h ∙ ap (λ (k : ℕ). expected k n) e))
parts_message kind n ids (inr (inl e)) h = rw e (refl, one_identifier ids (h ∙ ap (λ (k : ℕ). expected k n) e))
parts_message kind n ids (inr (inr (inl e))) h = rw e (refl, refl)
parts_message kind n ids (inr (inr (inr e))) h = rw e (refl, refl)

-- a burst of n's net that is some preamble and the encoding of a valid message
pub record Sent (n : ℕ) (s : List ℕ) : Type 0 where
  pub before : List ℕ
  pub message : Message
  pub valid : Valid n message
  pub fits : length s ≤ longest_burst
  pub is : s ≡ before ++ encode message

module _ (n : ℕ) (N : NetSize n) (s : List ℕ) (bytes : Below 256 s) where
  pub accepted_sent : read_refusal n s ≡ 0 → Sent n s
  unfolding read_refusal burst_refusal encode
  accepted_sent e =
      let b = (first_passed (net_refusal n) (first (trailer_refusal n s) (list_refusal (ids_in s))) e).1 in
      let r = first_passed (trailer_refusal n s) (list_refusal (ids_in s)) b in
      let P = trailer_passed n s r.0 in
      let L = list_passed (ids_in s) r.1 in
      let size = length_ids_in s in
      let m = parts_message (kind_byte s) n (ids_in s) (known_is (kind_byte s) P.kind) (size ∙ P.count) in
      record {
        before = preamble s;
        message = message (kind_byte s) (ids_in s);
        valid = record {
          count = ap length m.1 ∙ size ∙ P.count ∙ ap (λ (k : ℕ). expected k n) (sym m.0);
          above_zero = ap nonzero m.1 ∙ L.0;
          ascends = ap ascending m.1 ∙ L.1;
          words = subst (Below (2 ^ 32)) (sym m.1) (below_ids_in s bytes);
        };
        fits = P.short;
        is = burst_of s bytes (passed_framed n s N r.0) ∙ ap (λ (f : List ℕ). preamble s ++ f) (ap₂ frame_of (sym m.0) (sym m.1));
      }

  pub sent_accepted : Sent n s → read_refusal n s ≡ 0
  sent_accepted S =
      ap (read_refusal n) S.is
      ∙ (read_after_write n N S.before S.message S.valid
      (subst (λ (l : List ℕ). length l ≤ longest_burst) S.is S.fits)).accepted

  -- a burst is accepted exactly if it is some preamble and the encoding of a valid message
  pub accepted_exactly : (read_refusal n s ≡ 0) ↔ Sent n s
  accepted_exactly = (accepted_sent, sent_accepted)

-- and that message is unique: it is the one that is read
pub message_unique : (n : ℕ) → NetSize n → (s : List ℕ) (S : Sent n s) → S.message ≡ message_of s
message_unique n N s S =
    sym
    (ap message_of S.is
    ∙ (read_after_write n N S.before S.message S.valid
    (subst (λ (l : List ℕ). length l ≤ longest_burst) S.is S.fits)).same_message)

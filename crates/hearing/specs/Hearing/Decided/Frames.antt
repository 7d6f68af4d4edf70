-- What is broadcast, as bytes: the frames that the code writes are the encodings of what is said, and the answer has their sizes.
use Rattle.std.specs.Prelude.{ℕ, ◌+◌, ◌≤◌, ◌≡◌, refl, ◌≢◌, Bool, true, false, eqb, take, get_or}
use Rattle.std.proofs.Math.Path.{sym, ap, ap₂}
use Rattle.std.proofs.Common.{◌∙◌, subst, inl, inr, arith, eq-eqb, ne_eqb, length-append, length-take-le}
use mathlib.Core.List.{List, [], ◌∷◌, ◌++◌, append-nil, append_assoc}
use Rattle.std.proofs.Math.ListN.{length}
use Rattle.limits.specs.Limits.{most_bases, frame_slots}
use Rattle.lists.specs.Choice.{choose, or}
use Rattle.lists.specs.Choice.Laws.{choose_yes, choose_no, choose_ind, clash}
use Rattle.frame.specs.Message.{Message, correct_final, kind_of, ids_of, known, expected, holds_one, holds_all}
use Rattle.frame.proofs.Message.Laws.{known_is, length_known, expected_range}
use Rattle.lists.specs.Lists.{sum_over}
use Rattle.frame.specs.Encoding.{frame_of, encode, over}
use Rattle.frame.specs.Slots.{size_of, slots_of}
use Rattle.frame.proofs.Encoding.Laws.{length_frame}
use Rattle.frame.proofs.Reading.Laws.{kind_passes}
use Rattle.frame.proofs.Reading.Theorems.{parts_message}
use Rattle.frame_room.specs.Room.Laws.{fits}
use Rattle.protocol.specs.declared.Base.{Base}
use Rattle.protocol.specs.declared.Outcome.TheVariants.{Accepted}
use Rattle.protocol.specs.Airtime.{own_slots, relayed_slots}
use Rattle.protocol.proofs.Airtime.Laws.{sums_whole, nothing_not_relayed, final_not_relayed, slots_append}
use Rattle.protocol.specs.Steps.{Done, accepted, accepts, encode_all, lengths, outcome_with, output_of}
use Rattle.change.specs.declared.Change.{Change}
use Rattle.change.specs.Change.{changed_base, Does}
use Rattle.change.specs.Heard.{message_in}
use Rattle.deciding.specs.declared.Decision.{Decision}
use Rattle.broadcasting.specs.Broadcasting.{frame_in, last_frame, accepted_with}
use Rattle.broadcasting.specs.Broadcasting.Laws.{unknown_frame, fit_frame}
use Rattle.hearing.specs.Hearing.Decided.{decided_base, first_said, last_said, said_by}
use Rattle.hearing.specs.Hearing.Decided.Laws.{FirstKind}

pub encode_append : (a b : List Message) → encode_all (a ++ b) ≡ encode_all a ++ encode_all b
unfolding encode_all
encode_append [] b = refl
encode_append (m ∷ a) b =
    ap (λ (f : List ℕ). encode m ++ f) (encode_append a b) ∙ sym (append_assoc (encode m) (encode_all a) (encode_all b))

encode_one : (m : Message) → encode_all (m ∷ []) ≡ encode m
unfolding encode_all
encode_one m = append-nil (encode m)

encode_none : encode_all [] ≡ []
unfolding encode_all
encode_none = refl

-- ---- the answer
frame_some : (m : Message) → length (encode m) ≢ 0
unfolding encode
frame_some m z = omega (arith, length_frame (kind_of m) (ids_of m))

two_lengths : (a b : List Message) → length a ≤ 1 → length b ≤ 1 → (own relayed : ℕ)
    → choose (eqb (length (encode_all a)) 0)
    (Accepted (length (encode_all b)) 0 0 own relayed) (Accepted (length (encode_all a)) (length (encode_all b)) 0 own relayed)
    ≡ Accepted (get_or (lengths (a ++ b)) 0 0) (get_or (lengths (a ++ b)) 1 0) (get_or (lengths (a ++ b)) 2 0) own relayed
unfolding lengths choose encode_all
two_lengths [] [] p q own relayed = refl
two_lengths [] (m ∷ []) p q own relayed = ap (λ (f : List ℕ). Accepted (length f) 0 0 own relayed) (append-nil (encode m))
two_lengths (m ∷ []) [] p q own relayed =
    choose_no _ _ (ne_eqb _ 0 (λ z. frame_some m (sym (ap length (append-nil (encode m))) ∙ z)))
    ∙ ap (λ (f : List ℕ). Accepted (length f) 0 0 own relayed) (append-nil (encode m))
two_lengths (m ∷ []) (k ∷ []) p q own relayed =
    choose_no _ _ (ne_eqb _ 0 (λ z. frame_some m (sym (ap length (append-nil (encode m))) ∙ z)))
    ∙ ap₂ (λ (f g : List ℕ). Accepted (length f) (length g) 0 own relayed) (append-nil (encode m)) (append-nil (encode k))
two_lengths (m ∷ (k ∷ a)) b p q own relayed = absurd (omega arith)
two_lengths [] (m ∷ (k ∷ b)) p q own relayed = absurd (omega arith)
two_lengths (m ∷ []) (k ∷ (j ∷ b)) p q own relayed = absurd (omega arith)

-- the slots of one frame, or of none
one_slots : (l : List Message) → length l ≤ 1 → sum_over l slots_of ≡ frame_slots (length (encode_all l))
unfolding sum_over slots_of encode_all
one_slots [] h = refl
one_slots (m ∷ []) h = omega (arith, length-append (encode m) [])
one_slots (m ∷ (k ∷ l)) h = absurd (omega arith)

-- what is relayed, and behind it what is the base's own
two_said : (own : ℕ) (a b : List Message) → length a ≤ 1 → length b ≤ 1 → own_slots own a ≡ 0 → relayed_slots own b ≡ 0
    → accepted_with (size_of (length (encode_all a))) (size_of (length (encode_all b))) ≡ outcome_with own accepted (a ++ b)
unfolding accepted_with outcome_with
two_said own a b p q u v =
    let s = slots_append own a b in
    two_lengths a b p q (frame_slots (length (encode_all b))) (frame_slots (length (encode_all a)))
    ∙ ap₂ (λ (x y : ℕ).
    Accepted (get_or (lengths (a ++ b)) 0 0) (get_or (lengths (a ++ b)) 1 0) (get_or (lengths (a ++ b)) 2 0) x y)
    (omega (arith, s.0, one_slots b q, sums_whole own b)) (omega (arith, s.1, one_slots a p, sums_whole own a))

few_first_said : (n first : ℕ) (ids : List ℕ) → length (first_said n first ids) ≤ 1
unfolding first_said
few_first_said n first ids = choose_ind (λ (l : List Message). length l ≤ 1) (eqb first 0) (λ _. omega arith) (λ _. omega arith)

few_last_said : (n : ℕ) (stops : Bool) (list : List ℕ) → length (last_said n stops list) ≤ 1
unfolding last_said
few_last_said n stops list = choose_ind (λ (l : List Message). length l ≤ 1) stops (λ _. omega arith) (λ _. omega arith)

last_own : (own n : ℕ) (stops : Bool) (list : List ℕ) → relayed_slots own (last_said n stops list) ≡ 0
unfolding last_said
last_own own n stops list =
    choose_ind (λ (l : List Message). relayed_slots own l ≡ 0) stops (λ _. final_not_relayed own (take n list))
    (λ _. nothing_not_relayed own)

-- ---- the frames
-- a frame that there is room for
one_frame : (n kind : ℕ) (ids : List ℕ) (room : ℕ) (m : Message) → known kind ≡ true → expected kind n ≤ most_bases
    → length (take (expected kind n) ids) ≡ expected kind n → encode m ≡ frame_of kind (take (expected kind n) ids)
    → length (encode_all (m ∷ [])) ≤ room → frame_in n kind ids room ≡ encode_all (m ∷ [])
one_frame n kind ids room m k few l e h =
    fit_frame n kind ids room few
    (fits n kind (expected kind n) room (kind_passes n kind (expected kind n) k refl)
    (omega (arith, length_known kind n k, ap length (encode_one m ∙ e), length_frame kind (take (expected kind n) ids), l)))
    ∙ sym (encode_one m ∙ e)

zero_unknown : known 0 ≡ false
unfolding known holds_one holds_all or
zero_unknown = refl

first_frame : (n first : ℕ) (ids : List ℕ) (room : ℕ) → FirstKind first → 1 ≤ n → n ≤ most_bases → length ids ≡ most_bases
    → length (encode_all (first_said n first ids)) ≤ room → frame_in n first ids room ≡ encode_all (first_said n first ids)
unfolding first_said
first_frame n first ids room (inl e) some most z h =
    unknown_frame n first ids room (ap known e ∙ zero_unknown) ∙ sym (ap encode_all (choose_yes _ _ (eq-eqb first 0 e)) ∙ encode_none)
first_frame n first ids room (inr k) some most z h =
    let q : first_said n first ids ≡ message_in n first ids ∷ [] =
    choose_no _ _ (ne_eqb first 0 (λ e. clash k (ap known e ∙ zero_unknown))) in
    let few = (expected_range first n most_bases some most).1 in
    let l = length-take-le (expected first n) ids (omega arith) in
    one_frame n first ids room
    (message_in n first ids) k few l (said_frame l) (omega (arith, ap (λ (a : List Message). length (encode_all a)) q))
    ∙ sym (ap encode_all q)
  where
    said_frame : length (take (expected first n) ids) ≡ expected first n
        → encode (message_in n first ids) ≡ frame_of first (take (expected first n) ids)
    said_frame l = unfold encode message_in in
        (let P = parts_message first n (take (expected first n) ids) (known_is first k) l in ap₂ frame_of P.0 P.1)

holds_n : (n : ℕ) → expected 3 n ≡ n
unfolding expected holds_one or choose
holds_n n = refl

three_known : known 3 ≡ true
unfolding known holds_one holds_all or
three_known = refl

final_encoded : (v : List ℕ) → encode (correct_final v) ≡ frame_of 3 v
unfolding encode kind_of ids_of
final_encoded v = refl

last_frame_lem : (n : ℕ) (stops : Bool) (list : List ℕ) (room : ℕ) → (stops ≡ true → length (take n list) ≡ n) → n ≤ most_bases
    → length (encode_all (last_said n stops list)) ≤ room → choose stops (frame_in n 3 list room) [] ≡ encode_all (last_said n stops list)
unfolding last_said choose
last_frame_lem n true list room l most h =
    let e = holds_n n in
    one_frame n 3 list room (correct_final (take n list)) three_known (omega arith)
    (subst (λ (k : ℕ). length (take k list) ≡ k) (sym e) (l refl))
    (final_encoded (take n list) ∙ ap (λ (k : ℕ). frame_of 3 (take k list)) (sym e)) h
last_frame_lem n false list room l most h = sym encode_none

-- ---- the answer and the output of a message that was accepted
module _ (b c : Base) (D : Decision) (ids output : List ℕ) (F : FirstKind D.first) (some : 1 ≤ c.n) (most : c.n ≤ most_bases)
    (z : length ids ≡ most_bases) (l : D.stops ≡ true → length (take c.n D.final_list) ≡ c.n)
    (o : own_slots c.own (first_said c.n D.first ids) ≡ 0) (h : length (encode_all (said_by c.n D ids)) ≤ length output) where
  front : List ℕ
  front = encode_all (first_said c.n D.first ids)

  back : List ℕ
  back = encode_all (last_said c.n D.stops D.final_list)

  bytes : encode_all (said_by c.n D ids) ≡ front ++ back
  unfolding said_by front back
  bytes = encode_append (first_said c.n D.first ids) (last_said c.n D.stops D.final_list)

  room : length front + length back ≤ length output
  room = omega (arith, ap length bytes, length-append front back)

  first_is : frame_in c.n D.first ids (length output) ≡ front
  unfolding front
  first_is = first_frame c.n D.first ids (length output) F some most z (omega (arith, room))

  last_is : last_frame c.n D.first ids D.stops D.final_list (length output) ≡ back
  unfolding last_frame back
  last_is =
      last_frame_lem c.n D.stops D.final_list _ l most (omega (arith, room, ap length first_is))

  pub said_does : (r : Change) (after : List ℕ)
      → r.outcome ≡ accepted_with (size_of (length (frame_in c.n D.first ids (length output))))
      (size_of (length (last_frame c.n D.first ids D.stops D.final_list (length output))))
      → after ≡ over (frame_in c.n D.first ids (length output)
      ++ last_frame c.n D.first ids D.stops D.final_list (length output)) output
      → changed_base b r ≡ decided_base c D → Does b (accepts (decided_base c D) (said_by c.n D ids)) r output after
  unfolding accepts decided_base output_of said_by front back
  said_does r after p q k = record {
    changes = record {
      outcome = p ∙ ap₂ (λ (f g : List ℕ). accepted_with (size_of (length f)) (size_of (length g))) first_is last_is
          ∙ two_said c.own (first_said c.n D.first ids) (last_said c.n D.stops D.final_list)
          (few_first_said c.n D.first ids) (few_last_said c.n D.stops D.final_list)
          o (last_own c.own c.n D.stops D.final_list);
      base = k;
    };
    written = q ∙ ap (λ (f : List ℕ). over f output) (ap₂ ◌++◌ first_is last_is ∙ sym bytes);
  }

-- the room that a call asks is that of what it says
pub said_room_lem : {k : Done} (c : Base) (says : List Message) (room : ℕ) → k ≡ accepts c says → length (encode_all k.says) ≤ room
    → length (encode_all says) ≤ room
unfolding accepts
said_room_lem c says room e h = subst (λ (d : Done). length (encode_all d.says) ≤ room) e h

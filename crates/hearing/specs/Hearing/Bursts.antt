-- A burst that the reader took or turned down, and what the arrival is then: what was read arrives.
use Rattle.std.specs.Prelude.{ℕ, ◌-◌, ◌≡◌, ◌≢◌, true, List, take, drop}
use Rattle.std.proofs.Math.Path.{refl, sym, ap, ap₂}
use Rattle.std.proofs.Common.{◌∙◌, eq-eqb}
use Rattle.limits.specs.Limits.{most_bases}
use Rattle.limits.specs.Refusals.Laws.{net_passes}
use Rattle.lists.specs.Choice.{first}
use Rattle.lists.specs.Choice.Laws.{choose_yes, first_none, first_given, first_same, first_passed, first_assoc}
use Rattle.lists.specs.Lists.{zeros}
use Rattle.lists.specs.Lists.Zeros.{pad_behind}
use Rattle.frame.specs.Message.{Message, known, expected}
use Rattle.frame.specs.Reading.{kind_byte, count_byte, body_of, ids_in, list_refusal, burst_refusal, read_refusal, message, message_of}
use Rattle.frame.specs.Reading.Laws.{Framed}
use Rattle.frame.proofs.Reading.Laws.{Passed, trailer_passed, read_passed, length_ids_in, kind_passes}
use Rattle.reader.specs.declared.Reading.{Reading}
use Rattle.reader.specs.declared.Reading.TheVariants as reads
use Rattle.decoding.specs.Decoding.{id_array}
use Rattle.decoding.specs.Decoding.Laws.{array_of, array_front}
use Rattle.reader.specs.Answers.{stretch, reading_of}
use Rattle.reader.specs.Answers.Laws.{reading_message, reading_refused}
use Rattle.readings.specs.ReadNumbers.{read_numbers}
use Rattle.protocol.specs.declared.Base.{Base}
use Rattle.protocol.specs.Sound.{record_refusal}
use Rattle.protocol.proofs.Sound.Laws.{record_passed}
use Rattle.protocol.specs.Steps.{refuses, unless, link_refusal, output_refusal, arrival_refusal, arrival_step, arrival}
use Rattle.protocol.proofs.Steps.Refusals.{unless_refused_lem}
use Rattle.change.specs.Heard.{message_in}
use Rattle.messages.specs.Messages.{message_refusal}
use Rattle.hearing.specs.Hearing.{place_refusal, hear_refusal, message_arrival}
use Rattle.hearing.specs.Hearing.Laws.{place_passed, heard_down}

-- ---- numbers 1 to 6, then 7 to 12
burst_number : (b : Base) (link : ℕ) (s : List ℕ) (room : ℕ)
    → arrival_refusal b link s room ≡ first (place_refusal b link room) (burst_refusal b.n s)
unfolding arrival_refusal place_refusal
burst_number b link s room =
    ap (first (record_refusal b)) (first_assoc (link_refusal b.n link) (output_refusal room) (burst_refusal b.n s))
    ∙ first_assoc (record_refusal b) (first (link_refusal b.n link) (output_refusal room)) (burst_refusal b.n s)

module _ (b : Base) (link : ℕ) (s : List ℕ) (room : ℕ) where
  turned_down : (r : ℕ) → arrival_refusal b link s room ≡ r → r ≢ 0 → arrival b link s room ≡ refuses b r
  unfolding arrival
  turned_down r e h = unless_refused_lem b _ (λ z. h (sym e ∙ z)) ∙ ap (refuses b) e

  -- the number of the reading, behind those of the place
  unread_heard : (r kind : ℕ) (ids : List ℕ) → reading_of b.n s ≡ reads.Refused r
      → arrival b link s room ≡ message_arrival b link r kind ids room
  unfolding read_refusal hear_refusal
  unread_heard r kind ids p =
      let q = reading_refused b.n s r p in
      let given : first r (message_refusal b.n kind ids) ≡ r = first_given _ q.1 in
      let burst : place_refusal b link room ≡ 0 → burst_refusal b.n s ≡ r = λ z.
      sym (first_none _ (net_passes (record_passed b (place_passed b link room z).ready.refusal).net)) ∙ q.0 in
      let number : arrival_refusal b link s room ≡ hear_refusal b link r kind ids room =
      burst_number b link s room ∙ first_same _ (λ z. burst z ∙ sym given) in
      let some : hear_refusal b link r kind ids room ≢ 0 = λ z. q.1 (sym given ∙ (first_passed _ _ z).1) in
      turned_down _ number some ∙ sym (heard_down b link r kind ids room _ refl some)

  -- ---- a message
  module _ (kind count start : ℕ) (p : reading_of b.n s ≡ reads.Message kind count start) where
    read : read_refusal b.n s ≡ 0
    read = (reading_message b.n s kind count start p).0

    burst : burst_refusal b.n s ≡ 0
    burst = unfold read_refusal in (first_passed _ _ read).1

    same_kind : kind ≡ kind_byte s
    same_kind = (reading_message b.n s kind count start p).1

    framed : Framed s
    framed = read_passed b.n s read

    trailer : Passed b.n s
    unfolding burst_refusal
    trailer = trailer_passed b.n s (first_passed _ _ burst).0

    -- as many identifiers as the kind holds
    counted : count_byte s ≡ expected kind b.n
    counted = trailer.count ∙ ap (λ (k : ℕ). expected k b.n) (sym same_kind)

    module _ (ids : List ℕ) (q : ids ≡ id_array (stretch b.n s)) where
      whole : ids ≡ id_array (body_of s)
      unfolding stretch
      whole = q ∙ ap id_array (choose_yes _ _ (eq-eqb (read_refusal b.n s) 0 read))

      front : take (expected kind b.n) ids ≡ ids_in s
      front = ap (λ (k : ℕ). take k ids) (sym counted) ∙ ap (take (count_byte s)) whole ∙ array_front s framed

      behind : zeros (drop (expected kind b.n) ids) ≡ true
      behind = ap (λ (l : List ℕ). zeros (drop (expected kind b.n) l)) (whole ∙ array_of s framed)
          ∙ pad_behind most_bases (ids_in s) (expected kind b.n) (length_ids_in s ∙ counted)

      list : list_refusal (ids_in s) ≡ 0
      unfolding burst_refusal
      list = (first_passed _ _ burst).1

      read_passes : message_refusal b.n kind ids ≡ 0
      unfolding message_refusal
      read_passes =
          first_none _ (kind_passes b.n kind (expected kind b.n) (ap known same_kind ∙ trailer.kind) refl)
          ∙ choose_yes _ _ behind ∙ ap list_refusal front ∙ list

      says : message_of s ≡ message_in b.n kind ids
      unfolding message_in message_of
      says = ap (message (kind_byte s)) (sym front) ∙ ap (λ (k : ℕ). message k (take (expected kind b.n) ids)) (sym same_kind)

      pub read_heard : arrival b link s room ≡ message_arrival b link 0 kind ids room
      unfolding arrival message_arrival hear_refusal
      read_heard = ap₂ (λ (r : ℕ) (m : Message). unless r b (arrival_step b (link - 1) m))
          (burst_number b link s room ∙ ap (first (place_refusal b link room)) (burst ∙ sym (first_none _ refl ∙ read_passes))) says

  -- ---- both, as the numbers of the reading have them
  numbers_heard : (x : Reading) → reading_of b.n s ≡ x → let h = read_numbers x (id_array (stretch b.n s)) in
      arrival b link s room ≡ message_arrival b link h.refusal h.kind h.ids room
  unfolding read_numbers
  numbers_heard (reads.Message kind count start) p = read_heard kind count start p _ refl
  numbers_heard (reads.Refused r) p = unread_heard r _ _ p

  pub burst_heard_as : let h = read_numbers (reading_of b.n s) (id_array (stretch b.n s)) in
      arrival b link s room ≡ message_arrival b link h.refusal h.kind h.ids room
  burst_heard_as = numbers_heard (reading_of b.n s) refl

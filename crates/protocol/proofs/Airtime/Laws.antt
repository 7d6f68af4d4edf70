-- The sums of a base's messages: each message is in one of the two, and which one.
use Rattle.std.specs.Prelude.{ℕ, ◌+◌, ◌≡◌, ◌≢◌, Bool, true, List, [], ◌∷◌, ◌++◌, length, get_or}
use Rattle.std.proofs.Math.Path.{refl}
use Rattle.std.proofs.Common.{◌∙◌, eq-eqb, ne_eqb}
use Rattle.std.proofs.Math.Bool.{false}
use native.Mathlib.Omega.{arith}
use Rattle.limits.specs.Limits.{frame_bytes, list_slots}
use Rattle.lists.specs.Choice.{choose}
use Rattle.lists.specs.Choice.Laws.{choose_yes, choose_no}
use Rattle.lists.specs.Lists.{sum_over}
use Rattle.lists.specs.Lists.Sums.{sum_over_append}
use Rattle.frame.specs.Message.{Message, announce, verify, correct_final, verify_final, ids_of}
use Rattle.frame.specs.Encoding.{encode}
use Rattle.frame.specs.Slots.{slots_of}
use Rattle.frame.proofs.Slots.Laws.{slots_by_count}
use Rattle.protocol.specs.declared.Outcome.{Outcome}
use Rattle.protocol.specs.Steps.{lengths, with_sums}
use Rattle.protocol.proofs.Steps.Sizes.{length_encode}
use Rattle.protocol.specs.Airtime.{is_own, own_part, relayed_part, own_slots, relayed_slots}

-- ---- each message is in one of the two sums
parts_whole : (own : ℕ) (m : Message) → own_part own m + relayed_part own m ≡ slots_of m
unfolding own_part relayed_part
parts_whole own m = go (is_own own m)
  where
    go : (t : Bool) → choose t (slots_of m) 0 + choose t 0 (slots_of m) ≡ slots_of m
    go true = unfold choose in omega arith
    go false = unfold choose in omega arith

pub sums_whole : (own : ℕ) (says : List Message) → own_slots own says + relayed_slots own says ≡ sum_over says slots_of
unfolding own_slots relayed_slots sum_over
sums_whole own [] = refl
sums_whole own (m ∷ says) = omega (arith, parts_whole own m, sums_whole own says)

-- ---- in which, and with how many slots
own_part_lem : (own : ℕ) (m : Message) → is_own own m ≡ true
    → (own_part own m ≡ list_slots (length (ids_of m))) × (relayed_part own m ≡ 0)
unfolding own_part relayed_part
own_part_lem own m e = (choose_yes _ _ e ∙ slots_by_count m, choose_yes _ _ e)

relayed_part_lem : (own : ℕ) (m : Message) → is_own own m ≡ false
    → (own_part own m ≡ 0) × (relayed_part own m ≡ list_slots (length (ids_of m)))
unfolding own_part relayed_part
relayed_part_lem own m e = (choose_no _ _ e, choose_no _ _ e ∙ slots_by_count m)

pub announce_part : (own g : ℕ) → (own_part own (announce g) ≡ 1) × (relayed_part own (announce g) ≡ 0)
unfolding ids_of is_own
announce_part own g = own_part_lem own (announce g) refl

pub own_verify_part : (own : ℕ) → (own_part own (verify own) ≡ 1) × (relayed_part own (verify own) ≡ 0)
unfolding ids_of is_own
own_verify_part own = own_part_lem own (verify own) (eq-eqb own own refl)

pub verify_part : (own g : ℕ) → g ≢ own → (own_part own (verify g) ≡ 0) × (relayed_part own (verify g) ≡ 1)
unfolding ids_of is_own
verify_part own g ne = relayed_part_lem own (verify g) (ne_eqb g own ne)

pub final_part : (own : ℕ) (v : List ℕ)
    → (own_part own (correct_final v) ≡ list_slots (length v)) × (relayed_part own (correct_final v) ≡ 0)
unfolding ids_of is_own
final_part own v = own_part_lem own (correct_final v) refl

pub vote_part : (own : ℕ) (v : List ℕ)
    → (own_part own (verify_final v) ≡ 0) × (relayed_part own (verify_final v) ≡ list_slots (length v))
unfolding ids_of is_own
vote_part own v = relayed_part_lem own (verify_final v) refl

-- ---- the two messages of a start, and those behind them
pub start_parts : (own : ℕ)
    → (own_part own (announce own) + own_part own (verify own) ≡ 2) × (relayed_part own (announce own) + relayed_part own (verify own) ≡ 0)
start_parts own =
    let a = announce_part own own in
    let v = own_verify_part own in
    (omega (arith, a.0, v.0), omega (arith, a.1, v.1))

module _ (own : ℕ) (says : List Message) where
  start_own : own_slots own (announce own ∷ (verify own ∷ says)) ≡ 2 + own_slots own says
  unfolding own_slots sum_over
  start_own = omega (arith, (start_parts own).0)

  start_relayed : relayed_slots own (announce own ∷ (verify own ∷ says)) ≡ relayed_slots own says
  unfolding relayed_slots sum_over
  start_relayed = omega (arith, (start_parts own).1)

  announce_long : length (encode (announce own)) ≡ frame_bytes 1
  unfolding ids_of
  announce_long = length_encode (announce own)

  verify_long : length (encode (verify own)) ≡ frame_bytes 1
  unfolding ids_of
  verify_long = length_encode (verify own)

  -- an answer with the frames of a start first
  pub start_answer : (ends : ℕ → ℕ → ℕ → ℕ → ℕ → Outcome) → with_sums ends own (announce own ∷ (verify own ∷ says))
      ≡ ends (frame_bytes 1) (frame_bytes 1) (get_or (lengths says) 0 0) (2 + own_slots own says) (relayed_slots own says)
  unfolding lengths
  start_answer ends = λ i. ends (announce_long i) (verify_long i) (get_or (lengths says) 0 0) (start_own i) (start_relayed i)

-- with nothing behind them
pub start_alone : (own : ℕ) (ends : ℕ → ℕ → ℕ → ℕ → ℕ → Outcome)
    → with_sums ends own (announce own ∷ (verify own ∷ [])) ≡ ends (frame_bytes 1) (frame_bytes 1) 0 2 0
start_alone own ends = start_answer own [] ends ∙ nothing
  where
    nothing : ends (frame_bytes 1) (frame_bytes 1) (get_or (lengths []) 0 0) (2 + own_slots own []) (relayed_slots own [])
        ≡ ends (frame_bytes 1) (frame_bytes 1) 0 2 0
    nothing = unfold lengths own_slots relayed_slots sum_over in refl

-- ---- what a base says at a message: what it relays, and a Correct-Final of its own
pub nothing_not_own : (own : ℕ) → own_slots own [] ≡ 0
unfolding own_slots sum_over
nothing_not_own own = refl

pub verify_not_own : (own g : ℕ) → g ≢ own → own_slots own (verify g ∷ []) ≡ 0
unfolding own_slots sum_over
verify_not_own own g ne = omega (arith, (verify_part own g ne).0)

pub vote_not_own : (own : ℕ) (v : List ℕ) → own_slots own (verify_final v ∷ []) ≡ 0
unfolding own_slots sum_over
vote_not_own own v = omega (arith, (vote_part own v).0)

pub nothing_not_relayed : (own : ℕ) → relayed_slots own [] ≡ 0
unfolding relayed_slots sum_over
nothing_not_relayed own = refl

pub final_not_relayed : (own : ℕ) (v : List ℕ) → relayed_slots own (correct_final v ∷ []) ≡ 0
unfolding relayed_slots sum_over
final_not_relayed own v = omega (arith, (final_part own v).1)

pub slots_append : (own : ℕ) (a b : List Message)
    → (own_slots own (a ++ b) ≡ own_slots own a + own_slots own b) × (relayed_slots own
    (a ++ b) ≡ relayed_slots own a + relayed_slots own b)
unfolding own_slots relayed_slots
slots_append own a b = (sum_over_append a b (own_part own), sum_over_append a b (relayed_part own))

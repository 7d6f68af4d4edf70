-- A message that was read: what its numbers leave, and what the call does by them.
use Rattle.std.specs.Prelude.{ℕ, ◌-◌, ◌≤◌, ◌≡◌, refl, ◌≢◌, Bool, true, false, List, ◌++◌, length, take, drop, replicate}
use Rattle.std.proofs.Common.{sym, ◌∙◌, arith, length-drop, take-append-drop, length-take-le}
use Rattle.std.proofs.Math.Path.{ap}
use Rattle.limits.specs.Limits.{most_bases, output_room}
use Rattle.lists.specs.Choice.{choose}
use Rattle.lists.specs.Choice.Laws.{choose_ind, first_passed}
use Rattle.lists.specs.Lists.{zeros, pad_to}
use Rattle.lists.specs.Lists.Zeros.{zeros_are}
use Rattle.frame.specs.Message.{expected, holds_one}
use Rattle.frame.proofs.Message.Laws.{expected_range}
use Rattle.frame.proofs.Reading.Laws.{kind_passed}
use Rattle.protocol.specs.declared.Base.{Base}
use Rattle.protocol.specs.Steps.{refuses, arrival_step}
use Rattle.protocol.proofs.Steps.Refusals.{unless_passed, unless_refused_lem, link_passed, output_passed}
use Rattle.messages.specs.Messages.{message_refusal}
use Rattle.change.specs.Heard.{message_in, HoldsFirst, MessageIn}
use Rattle.hearing.specs.Hearing.First.{Ready}
use Rattle.hearing.specs.Hearing.{place_refusal, hear_refusal, message_arrival}

-- ---- what numbers 1 to 6 leave
pub record PlacePassed (b : Base) (link room : ℕ) : Type 0 where
  pub ready : Ready b (link - 1)
  pub some : 1 ≤ link
  pub wide : output_room ≤ room

pub place_passed : (b : Base) (link room : ℕ) → place_refusal b link room ≡ 0 → PlacePassed b link room
unfolding place_refusal
place_passed b link room e =
    let p = first_passed _ _ e in
    let q = first_passed _ _ p.1 in
    let l = link_passed b.n link q.0 in
    record { ready = record { refusal = p.0; here = omega (arith, l) }; some = l.0; wide = output_passed room q.1 }

-- ---- what 8, 9, 11 and 12 leave
zeros_behind : (ids : List ℕ) (k : ℕ) → length ids ≡ most_bases → k ≤ most_bases → zeros (drop k ids) ≡ true
    → HoldsFirst k ids
unfolding pad_to
zeros_behind ids k l h z =
    let t = length-take-le k ids (omega arith) in
    let e : length (drop k ids) ≡ most_bases - length (take k ids) = omega (arith, length-drop k ids, t) in
    sym (take-append-drop k ids)
    ∙ ap (λ (s : List ℕ). take k ids ++ s) (zeros_are (drop k ids) z ∙ ap (λ (m : ℕ). replicate m 0) e)

behind_zero : (t : Bool) (r : ℕ) → choose t r 9 ≡ 0 → t ≡ true
unfolding choose
behind_zero true r e = refl
behind_zero false r e = absurd (omega arith)

pub message_passed : (n kind : ℕ) (ids : List ℕ) → 1 ≤ n → n ≤ most_bases → length ids ≡ most_bases
    → message_refusal n kind ids ≡ 0
    → MessageIn n kind ids
unfolding message_refusal
message_passed n kind ids some most l e =
    let p = first_passed _ _ e in record {
      known = (kind_passed n kind (expected kind n) p.0).0;
      holds = zeros_behind ids (expected kind n) l (expected_range kind n most_bases some most).1 (behind_zero _ _ p.1);
    }

-- ---- the call
module _ (b : Base) (link number kind : ℕ) (ids : List ℕ) (room : ℕ) where
  pub heard_down : (r : ℕ) → r ≡ hear_refusal b link number kind ids room → r ≢ 0
      → message_arrival b link number kind ids room ≡ refuses b r
  unfolding message_arrival
  heard_down r e h = unless_refused_lem b _ (λ z. h (e ∙ z)) ∙ ap (refuses b) (sym e)

  pub heard_on : hear_refusal b link number kind ids room ≡ 0
      → message_arrival b link number kind ids room ≡ arrival_step b (link - 1) (message_in b.n kind ids)
  unfolding message_arrival
  heard_on e = unless_passed b _ e

  -- what no number leaves out
  pub record HeardPassed : Type 0 where
    pub place : PlacePassed b link room
    pub read : number ≡ 0
    pub message : message_refusal b.n kind ids ≡ 0

  pub heard_passed : hear_refusal b link number kind ids room ≡ 0 → HeardPassed
  unfolding hear_refusal
  heard_passed e =
      let p = first_passed _ _ e in
      let q = first_passed _ _ p.1 in
      record { place = place_passed b link room p.0; read = q.0; message = q.1 }

-- as many identifiers as an array has room for
pub few : (kind n : ℕ) → n ≤ most_bases → expected kind n ≤ most_bases
unfolding expected
few kind n h = choose_ind (λ (k : ℕ). k ≤ most_bases) (holds_one kind) (λ _. omega arith) (λ _. h)

-- What the rules of a sound record say one by one, and the way back: from a test that holds to its parts, and from the parts to the test.
-- Code and theorems take their bounds from here.
use Rattle.std.specs.Prelude.{ℕ, ◌+◌, ◌-◌, ◌≤◌, ◌<◌, ◌≡◌, refl, ◌≢◌, ◌⊎◌, true, false, not, List, eqb, take, drop}
use Rattle.std.proofs.Common.{sym, ap, ◌∙◌, inl, inr, arith, leb-true, le-leb, eqb-true, eq-eqb, ne_eqb, le-ltb, lt-ltb}
use Rattle.std.proofs.Math.Decide.{dec_lt}
use Rattle.std.proofs.lemmas.Bool.{not-false}
use Rattle.limits.specs.Limits.{most_links, list_room, most_faulty}
use Rattle.limits.specs.Refusals.{NetSize}
use Rattle.limits.specs.Refusals.Laws.{size_passes, size_passed, own_passes, own_passed}
use Rattle.lists.specs.Choice.{and, or}
use Rattle.lists.specs.Choice.Laws.{choose_yes, choose_no, and_true, and_both, or_true, passed, passes, first_none, first_passed}
use Rattle.lists.specs.Lists.{nonzero, ascending, distinct, zeros}
use Rattle.counting.specs.Sums.Laws.{all_at}
use Rattle.counting.specs.Sums.Bounds.{all_each}
use Rattle.protocol.specs.declared.Link.{Link}
use Rattle.protocol.specs.declared.Base.{Base}
use Rattle.protocol.specs.Links.{verifies_of, used}
use Rattle.protocol.proofs.Links.Laws.{count_used}
use Rattle.protocol.specs.Record.{link_at, certified}
use Rattle.protocol.specs.Sound.{list_sound, verifies_sound, held_sound, link_sound, link_empty, place_sound, links_sound, links_empty}
use Rattle.protocol.specs.Sound.{idle, stopped, final_sound, idle_sound, announces_sound, sound, setting_refusal, record_refusal}

-- ---- a list of n identifiers
pub record ListParts (n : ℕ) (l : List ℕ) : Type 0 where
  pub above_zero : nonzero (take n l) ≡ true
  pub ascends : ascending (take n l) ≡ true
  pub behind : zeros (drop n l) ≡ true

pub list_parts : (n : ℕ) (l : List ℕ) → list_sound n l ≡ true → ListParts n l
unfolding list_sound
list_parts n l e =
    let p = and_true _ _ e in
    let q = and_true _ _ p.1 in
    record { above_zero = p.0; ascends = q.0; behind = q.1 }

pub parts_list : {n : ℕ} {l : List ℕ} → ListParts n l → list_sound n l ≡ true
unfolding list_sound
parts_list P = and_both P.above_zero (and_both P.ascends P.behind)

-- ---- a link
pub record LinkParts (n : ℕ) (l : Link) : Type 0 where
  pub room : used l ≤ n + 1
  pub above_zero : nonzero (verifies_of l) ≡ true
  pub apart : distinct (verifies_of l) ≡ true
  pub behind : zeros (drop l.verify_count l.verifies) ≡ true
  pub held : held_sound n l ≡ true

pub link_parts : (n : ℕ) (l : Link) → link_sound n l ≡ true → LinkParts n l
unfolding link_sound verifies_sound
link_parts n l e =
    let p = and_true _ _ e in
    let q = and_true _ _ p.1 in
    let v = and_true _ _ q.0 in
    let w = and_true _ _ v.1 in
    record { room = leb-true (used l) (n + 1) p.0; above_zero = v.0; apart = w.0; behind = w.1; held = q.1 }

pub parts_link : {n : ℕ} {l : Link} → LinkParts n l → link_sound n l ≡ true
unfolding link_sound verifies_sound
parts_link {n} {l} P =
    and_both (le-leb (used l) (n + 1) P.room) (and_both (and_both P.above_zero (and_both P.apart P.behind)) P.held)

-- what is held: nothing, and zeros, or a list of kind 3 or 4
pub held_none : (n : ℕ) (l : Link) → held_sound n l ≡ true → l.held ≡ 0 → zeros l.list ≡ true
unfolding held_sound
held_none n l e h = sym (choose_yes _ _ (eq-eqb l.held 0 h)) ∙ e

pub held_list : (n : ℕ) (l : Link) → held_sound n l ≡ true → l.held ≢ 0 → ((l.held ≡ 3) ⊎ (l.held ≡ 4)) × ListParts n l.list
unfolding held_sound
held_list n l e h =
    let p = and_true _ _ (sym (choose_no _ _ (ne_eqb l.held 0 h)) ∙ e) in (
      elim (or_true (eqb l.held 3) (eqb l.held 4) p.0) [
        | inl q ↦ inl (eqb-true l.held 3 q)
        | inr q ↦ inr (eqb-true l.held 4 q)
      ],
      list_parts n l.list p.1,
    )

-- ---- a link that holds nothing
pub record EmptyParts (l : Link) : Type 0 where
  pub announce : l.announce ≡ 0
  pub count : l.verify_count ≡ 0
  pub verifies : zeros l.verifies ≡ true
  pub held : l.held ≡ 0
  pub list : zeros l.list ≡ true

pub empty_parts : (l : Link) → link_empty l ≡ true → EmptyParts l
unfolding link_empty
empty_parts l e =
    let p = and_true _ _ e in
    let q = and_true _ _ p.1 in
    let r = and_true _ _ q.1 in
    let s = and_true _ _ r.1 in
    record {
      announce = eqb-true l.announce 0 p.0;
      count = eqb-true l.verify_count 0 q.0;
      verifies = r.0;
      held = eqb-true l.held 0 s.0;
      list = s.1;
    }

-- ---- a place of the array
pub place_used : (n i : ℕ) (l : Link) → i < n - 1 → place_sound n i l ≡ link_sound n l
unfolding place_sound
place_used n i l h = choose_yes _ _ (lt-ltb i (n - 1) h)

pub place_unused : (n i : ℕ) (l : Link) → n - 1 ≤ i → place_sound n i l ≡ link_empty l
unfolding place_sound
place_unused n i l h = choose_no _ _ (le-ltb i (n - 1) h)

-- a place in use or not holds at most n + 1 Verifies
pub place_count : (n i : ℕ) (l : Link) → place_sound n i l ≡ true → l.verify_count ≤ n + 1
place_count n i l e = elim (dec_lt i (n - 1)) [
  | yes h ↦ (let P = link_parts n l (sym (place_used n i l h) ∙ e) in omega (arith, count_used l, P.room))
  | no h ↦ (let P = empty_parts l (sym (place_unused n i l (omega (arith, h))) ∙ e) in omega (arith, P.count))
]

-- ---- the record
pub record SoundParts (b : Base) : Type 0 where
  pub state : b.state ≤ 3
  pub sent : b.sent ≤ 1
  pub place : (i : ℕ) → i < most_links → place_sound b.n i (link_at b i) ≡ true
  pub apart : distinct (certified b) ≡ true
  pub final : final_sound b ≡ true
  pub idle : idle_sound b ≡ true

pub sound_parts : (b : Base) → sound b ≡ true → SoundParts b
unfolding sound links_sound announces_sound
sound_parts b e =
    let p = and_true _ _ e in
    let q = and_true _ _ p.1 in
    let r = and_true _ _ q.1 in
    let s = and_true _ _ r.1 in
    let u = and_true _ _ s.1 in
    record {
      state = leb-true b.state 3 p.0;
      sent = leb-true b.sent 1 q.0;
      place = all_at most_links (λ i. place_sound b.n i (link_at b i)) r.0;
      apart = s.0;
      final = u.0;
      idle = u.1;
    }

pub parts_sound : {b : Base} → SoundParts b → sound b ≡ true
unfolding sound links_sound announces_sound
parts_sound {b} P =
    and_both (le-leb b.state 3 P.state)
    (and_both (le-leb b.sent 1 P.sent)
    (and_both (all_each most_links (λ i. place_sound b.n i (link_at b i)) P.place)
    (and_both P.apart (and_both P.final P.idle))))

-- the final list
pub final_stopped : (b : Base) → final_sound b ≡ true → stopped b ≡ true → ListParts b.n b.final_list
unfolding final_sound
final_stopped b e h = list_parts b.n b.final_list (sym (choose_yes _ _ h) ∙ e)

pub final_running : (b : Base) → final_sound b ≡ true → stopped b ≡ false → zeros b.final_list ≡ true
unfolding final_sound
final_running b e h = sym (choose_no _ _ h) ∙ e

-- an idle base has sent nothing and holds nothing
pub idle_unsent : (b : Base) → idle_sound b ≡ true → idle b ≡ true → b.sent ≡ 0
unfolding idle_sound
idle_unsent b e h = eqb-true b.sent 0 (and_true _ _ (sym (choose_yes _ _ h) ∙ e)).0

pub idle_place : (b : Base) → idle_sound b ≡ true → idle b ≡ true → (i : ℕ) → i < most_links → EmptyParts (link_at b i)
unfolding idle_sound links_empty
idle_place b e h i l =
    empty_parts (link_at b i) (all_at most_links (λ j. link_empty (link_at b j)) (and_true _ _ (sym (choose_yes _ _ h) ∙ e)).1 i l)

-- ---- a record that is not turned down
pub record Admitted (b : Base) : Type 0 where
  pub net : NetSize b.n
  pub few : b.t ≤ most_faulty b.n
  pub own : 1 ≤ b.own
  pub sound : sound b ≡ true

pub setting_passed : (n t own : ℕ) → setting_refusal n t own ≡ 0 → NetSize n × (t ≤ most_faulty n) × (1 ≤ own)
unfolding setting_refusal
setting_passed n t own e =
    let p = first_passed _ _ e in
    let size = size_passed n t p.0 in
    (size.0, size.1, own_passed own p.1)

pub setting_passes : {n t own : ℕ} → NetSize n → t ≤ most_faulty n → 1 ≤ own → setting_refusal n t own ≡ 0
unfolding setting_refusal
setting_passes N few some = first_none _ (size_passes N few) ∙ own_passes some

pub record_passed : (b : Base) → record_refusal b ≡ 0 → Admitted b
unfolding record_refusal
record_passed b e =
    let p = first_passed _ _ e in
    let s = setting_passed b.n b.t b.own p.0 in
    record { net = s.0; few = s.1; own = s.2; sound = not-false _ (passed _ 3 _ p.1).0 }

pub record_passes : {b : Base} → Admitted b → record_refusal b ≡ 0
unfolding record_refusal
record_passes A = first_none _ (setting_passes A.net A.few A.own) ∙ passes 4 (ap not A.sound) refl

-- ---- bounds of a record that is not turned down
pub count_room : (b : Base) → record_refusal b ≡ 0 → (i : ℕ) → i < most_links → (link_at b i).verify_count ≤ list_room
count_room b e i h =
    let A = record_passed b e in
    omega (arith, A.net.most, place_count b.n i (link_at b i) ((sound_parts b A.sound).place i h))

pub link_sound_lem : (b : Base) → record_refusal b ≡ 0 → (i : ℕ) → i < b.n - 1 → LinkParts b.n (link_at b i)
link_sound_lem b e i h =
    let A = record_passed b e in
    link_parts b.n (link_at b i)
    (sym (place_used b.n i (link_at b i) h) ∙ (sound_parts b A.sound).place i (omega (arith, A.net.most)))

-- A sound record that runs stays one while a message is taken in: the changed link stays
-- sound, no other changes, and the certified identifiers stay different.
use Rattle.std.specs.Prelude.{ℕ, ◌-◌, ◌≤◌, ◌<◌, ◌≡◌, refl, true, false, List, length}
use Rattle.std.proofs.Common.{sym, ap, ◌∙◌, subst, subst₂, inl, inr, ne_eqb}
use native.Mathlib.Omega.{arith}
use Rattle.std.proofs.lemmas.Bool.{lt-leb}
use Rattle.limits.specs.Limits.{most_links, most_faulty}
use Rattle.limits.specs.Refusals.{NetSize}
use Rattle.lists.specs.Choice.Laws.{choose_no}
use Rattle.lists.specs.Lists.{distinct, zeros}
use Rattle.frame.specs.Message.{Message, ids_of, Valid}
use Rattle.protocol.specs.declared.Base.{Base}
use Rattle.protocol.specs.declared.Link.{Link}
use Rattle.protocol.specs.Links.{full}
use Rattle.protocol.proofs.Sound.Idle.{idle_not_stopped}
use Rattle.protocol.specs.Record.{link_at, link_count, certified}
use Rattle.protocol.proofs.Record.Laws.{link_count_lem}
use Rattle.protocol.specs.Record.Memory.{Sized}
use Rattle.protocol.specs.Sound.{place_sound, idle, stopped, final_sound, idle_sound, sound, record_refusal}
use Rattle.protocol.proofs.Sound.Laws.{LinkParts, link_parts, parts_link, place_used, sound_parts}
use Rattle.protocol.proofs.Sound.Laws.{parts_sound, final_running, record_passed, record_passes}
use Rattle.protocol.proofs.Sound.Changes.{not_full, announce_parts, verify_parts, vector_parts}
use Rattle.protocol.proofs.Links.Laws.{count_used}
use Rattle.protocol.specs.Steps.{with_link, with_sent, with_state}
use Rattle.protocol.proofs.Steps.Cases.{Takes, takes_announce, takes_verify, takes_correct, takes_and_votes}
use Rattle.protocol.specs.Steps.Cases.{begun}
use Rattle.protocol.proofs.Steps.Cases.{takes_verify_final, correct_list, verify_list}
use Rattle.protocol.proofs.Steps.Certified.{takes_adds, adds_apart}
use Rattle.protocol.proofs.Steps.Decided.{valid_roster, roster_padded}
use Rattle.protocol.proofs.Steps.Laws.{SameSetting, takes_rest, changed, takes_each}

-- what a sound record has in every state
pub record Standing (b : Base) : Type 0 where
  pub net : NetSize b.n
  pub few : b.t ≤ most_faulty b.n
  pub own : 1 ≤ b.own
  pub sent : b.sent ≤ 1
  pub place : (i : ℕ) → i < most_links → place_sound b.n i (link_at b i) ≡ true
  pub apart : distinct (certified b) ≡ true

pub record Runs (b : Base) : Type 0 where
  pub standing : Standing b
  pub state : b.state ≡ 1
  pub final : zeros b.final_list ≡ true

-- ---- from a record that is not turned down, and back
pub admitted_standing : (b : Base) → record_refusal b ≡ 0 → Standing b
admitted_standing b e =
    let A = record_passed b e in
    let P = sound_parts b A.sound in
    record { net = A.net; few = A.few; own = A.own; sent = P.sent; place = P.place; apart = P.apart }

not_idle : (b : Base) → 1 ≤ b.state → idle_sound b ≡ true
unfolding idle_sound idle
not_idle b h = choose_no _ _ (ne_eqb b.state 0 (λ e. omega (arith, e)))

pub standing_admitted : {b : Base} → Standing b → 1 ≤ b.state → b.state ≤ 3 → final_sound b ≡ true → record_refusal b ≡ 0
standing_admitted {b} S low high final = record_passes (record {
  net = S.net;
  few = S.few;
  own = S.own;
  sound = parts_sound (record { state = high; sent = S.sent; place = S.place; apart = S.apart; final = final; idle = not_idle b low });
})

admitted_final : (b : Base) → record_refusal b ≡ 0 → stopped b ≡ false → zeros b.final_list ≡ true
admitted_final b e on = final_running b (sound_parts b (record_passed b e).sound).final on

running_final : (b : Base) → b.state ≡ 1 → zeros b.final_list ≡ true → final_sound b ≡ true
unfolding final_sound stopped
running_final b e h = choose_no _ _ (lt-leb 2 b.state (omega (arith, e))) ∙ h

pub runs_admitted : {b : Base} → Runs b → record_refusal b ≡ 0
runs_admitted {b} R =
    standing_admitted R.standing (omega (arith, R.state)) (omega (arith, R.state)) (running_final b R.state R.final)

pub admitted_runs : (b : Base) → record_refusal b ≡ 0 → b.state ≡ 1 → Runs b
unfolding stopped
admitted_runs b e on =
    record { standing = admitted_standing b e; state = on; final = admitted_final b e (lt-leb 2 b.state (omega (arith, on))) }

begun_standing : (b : Base) → Standing b → Standing (begun b)
unfolding with_state link_at link_count certified
begun_standing b S = record { net = S.net; few = S.few; own = S.own; sent = S.sent; place = S.place; apart = S.apart }

pub begun_runs : (b : Base) → record_refusal b ≡ 0 → idle b ≡ true → Runs (begun b)
begun_runs b e off = record {
  standing = begun_standing b (admitted_standing b e);
  state = unfold with_state in refl;
  final = unfold with_state in admitted_final b e (idle_not_stopped b off);
}

-- ---- a message is taken in
module _ {b : Base} (R : Runs b) (S : Sized b) {i : ℕ} (below : i < b.n - 1) where
  inside : i < most_links
  inside = omega (arith, below, R.standing.net.most)

  link_sound_lem : LinkParts b.n (link_at b i)
  link_sound_lem = link_parts b.n (link_at b i) (sym (place_used b.n i (link_at b i) below) ∙ R.standing.place i inside)

  -- a link that is not full has room for a Verify
  verify_room : full b.n (link_at b i) ≡ false → (link_at b i).verify_count < length (link_at b i).verifies
  verify_room f = omega (arith, not_full b.n (link_at b i) f, count_used (link_at b i), (S.each i inside).verifies, R.standing.net.most)

  changed_sound : {m : Message} {c : Base} {said : List Message} (T : Takes b i m c said) → Valid b.n m → LinkParts b.n (changed T)
  unfolding changed ids_of
  changed_sound (takes_announce g p q r) w = announce_parts link_sound_lem g r
  changed_sound (takes_verify g p q) w = verify_parts link_sound_lem g w.above_zero p q (verify_room q)
  changed_sound (takes_correct v o p) w = vector_parts link_sound_lem 3 v (inl refl) (roster_padded (valid_roster (correct_list v) w))
  changed_sound (takes_and_votes v o p) w = vector_parts link_sound_lem 3 v (inl refl) (roster_padded (valid_roster (correct_list v) w))
  changed_sound (takes_verify_final v o) w = vector_parts link_sound_lem 4 v (inr refl) (roster_padded (valid_roster (verify_list v) w))

  takes_sent : {m : Message} {c : Base} {said : List Message} → Takes b i m c said → c.sent ≤ 1
  unfolding with_link with_sent
  takes_sent (takes_announce g p q r) = R.standing.sent
  takes_sent (takes_verify g p q) = R.standing.sent
  takes_sent (takes_correct v o p) = R.standing.sent
  takes_sent (takes_and_votes v o p) = omega arith
  takes_sent (takes_verify_final v o) = R.standing.sent

  takes_standing : {m : Message} {c : Base} {said : List Message} → Takes b i m c said → Valid b.n m → Standing c
  takes_standing {c = c} T w = record {
    net = subst NetSize (sym same.n) R.standing.net;
    few = subst₂ (λ (t n : ℕ). t ≤ most_faulty n) (sym same.t) (sym same.n) R.standing.few;
    own = omega (arith, same.own, R.standing.own);
    sent = takes_sent T;
    place = subst (λ (n : ℕ). (j : ℕ) → j < most_links → place_sound n j (link_at c j) ≡ true) (sym same.n) places;
    apart = adds_apart same.own (takes_adds T (omega (arith, below, link_count_lem b R.standing.net)) fits w.above_zero)
        R.standing.apart;
  }
    where
      same : SameSetting b c
      same = (takes_rest T).setting

      fits : i < length b.links
      fits = omega (arith, inside, S.links)

      places : (j : ℕ) → j < most_links → place_sound b.n j (link_at c j) ≡ true
      places = takes_each (λ (j : ℕ) (l : Link). place_sound b.n j l ≡ true) most_links T fits
          (place_used b.n i (changed T) below ∙ parts_link (changed_sound T w)) R.standing.place

  pub takes_runs : {m : Message} {c : Base} {said : List Message} → Takes b i m c said → Valid b.n m → Runs c
  takes_runs T w =
      record { standing = takes_standing T w; state = (takes_rest T).state ∙ R.state; final = ap zeros (takes_rest T).final ∙ R.final }

-- The first message of a base that holds nothing from any link neither stops it nor makes it vote. Two Correct-Final would be needed for a
-- vote and for a secondary. A prime needs n certified identifiers whose tallies sum to n² − 2t: after one Announce no link holds a Verify,
-- so that the sum is n at most, and after any other message only the own identifier is certified.
use Rattle.std.specs.Prelude.{ℕ, ◌-◌, ◌≤◌, ◌<◌, ◌≡◌, ◌≢◌, true, false}
use Rattle.std.proofs.Common.{subst, subst₂, sym, ◌∙◌}
use Rattle.std.proofs.Math.Path.{refl, ap}
use mathlib.Core.List.{List, [], ◌∷◌}
use Rattle.std.proofs.Math.Nat.{mul-le-mul_right}
use native.Mathlib.Omega.{arith}
use Rattle.std.proofs.Math.ListN.{length}
use Rattle.limits.specs.Limits.{most_links, most_faulty, frame_bytes}
use Rattle.limits.specs.Refusals.{NetSize}
use Rattle.lists.specs.Lists.{member, sum_over}
use Rattle.counting.specs.Sums.{bit, sum}
use Rattle.counting.specs.Sums.Bounds.{bit_most, sum_none, sum_lone}
use Rattle.frame.specs.Message.{Message, verify, ids_of}
use Rattle.protocol.specs.declared.Link.{Link}
use Rattle.protocol.specs.declared.Base.{Base}
use Rattle.protocol.specs.Airtime.{own_slots}
use Rattle.protocol.proofs.Airtime.Laws.{nothing_not_own, verify_not_own}
use Rattle.protocol.specs.Links.{announces, holds_verify, holds_correct}
use Rattle.protocol.proofs.Links.Laws.{no_verify, no_announce, no_correct}
use Rattle.protocol.specs.Record.{link_at, link_count, links, certified, tally, tally_sum, correct_count}
use Rattle.protocol.specs.Record.Memory.{Sized}
use Rattle.protocol.proofs.Record.Laws.{link_room}
use Rattle.protocol.proofs.Record.Announced.{announced_none}
use Rattle.protocol.specs.Sound.{idle, record_refusal}
use Rattle.protocol.proofs.Sound.Laws.{EmptyParts, idle_place, sound_parts, record_passed}
use Rattle.protocol.specs.Steps.{Done, discards, accepts, with_link, with_state, with_announce}
use Rattle.protocol.specs.Steps.{with_verify, with_vector, prime_holds, votes, on_message, encode_all}
use Rattle.protocol.proofs.Steps.Cases.{holding_vector, Takes, takes_announce, takes_verify, takes_correct, takes_and_votes}
use Rattle.protocol.proofs.Steps.Cases.{takes_verify_final, Decides, decides_prime, decides_secondary, Ends, discarding}
use Rattle.protocol.specs.Steps.Cases.{begun}
use Rattle.protocol.proofs.Steps.Cases.{running_on, stopping, message_ends}
use Rattle.protocol.proofs.Steps.Certified.{uncertified_other}
use Rattle.protocol.proofs.Steps.Checks.{prime_parts, secondary_parts, vote_parts}
use Rattle.protocol.proofs.Steps.Laws.{SameSetting, stored_other, takes_rest, takes_other, changed, takes_each}
use Rattle.protocol.proofs.Steps.Sizes.{Brief, bytes_one}

-- ---- records that are not prime
-- where no link holds a Verify, each tally is 1 at most
sum_over_most : (l : List ℕ) (f : ℕ → ℕ) → ((x : ℕ) → f x ≤ 1) → sum_over l f ≤ length l
unfolding sum_over
sum_over_most [] f h = omega arith
sum_over_most (x ∷ l) f h = omega (arith, h x, sum_over_most l f h)

module _ (c : Base) (N : NetSize c.n) where
  tally_most : ((j : ℕ) → j < most_links → (g : ℕ) → holds_verify (link_at c j) g ≡ false) → (g : ℕ) → tally c g ≤ 1
  unfolding tally links bit
  tally_most none g = omega (
    arith,
    bit_most (member g (certified c)),
    sum_none (link_count c) (λ j. bit (holds_verify (link_at c j) g)) (λ j h. ap bit (none j (omega (arith, link_room c)) g)),
  )

  unverified_not_prime : c.t ≤ most_faulty c.n → ((j : ℕ) → j < most_links → (g : ℕ) → holds_verify (link_at c j) g ≡ false)
      → prime_holds c ≡ true → ⊥
  unfolding tally_sum
  unverified_not_prime few none e =
      let P = prime_parts c e in
      let low : tally_sum c ≤ length (certified c) = sum_over_most (certified c) (tally c) (tally_most none) in
      omega (arith, P.count, P.sum, N.least, mul-le-mul_right c.n N.least)

  -- where no link announces, only the own identifier is certified
  unannounced_not_prime : ((j : ℕ) → j < most_links → announces (link_at c j) ≡ false) → prime_holds c ≡ true → ⊥
  unfolding certified
  unannounced_not_prime none e = omega (
    arith,
    (prime_parts c e).count,
    ap length (announced_none (link_count c) (link_at c) (λ j h. none j (omega (arith, link_room c)))),
    N.least,
  )

-- ---- a base that holds nothing from any link
abbrev pub HoldsNothing : Base → Type 0
HoldsNothing c = (j : ℕ) → j < most_links → EmptyParts (link_at c j)

-- it stays quiet: state and vote are as they were, and a Verify of another's identifier is all that it may broadcast
pub record Quiet (c : Base) (d : Done) : Type 0 where
  pub state : d.base.state ≡ c.state
  pub sent : d.base.sent ≡ c.sent
  pub brief : Brief 1 (frame_bytes 1) d
  pub not_own : own_slots c.own d.says ≡ 0

module _ (c : Base) (N : NetSize c.n) (few : c.t ≤ most_faulty c.n) (blank : HoldsNothing c) (i : ℕ)
    (fits : i < length c.links) (here : i < most_links) where
  -- another base that differs at the link at place i alone
  correct_most : (d : Base) (v : List ℕ) → ((j : ℕ) → j ≢ i → link_at d j ≡ link_at c j) → correct_count d v ≤ 1
  unfolding correct_count links
  correct_most d v other =
      sum_lone (link_count d) (λ j. bit (holds_correct d.n (link_at d j) v)) i (bit_most (holds_correct d.n (link_at d i) v))
      (λ j h ne. ap bit (ap (λ (l : Link). holds_correct d.n l v) (other j ne)
      ∙ no_correct d.n (link_at c j) v (blank j (omega (arith, link_room d))).held) ∙ (unfold bit in refl))

  no_vote : (v : List ℕ) → votes (holding_vector c i 3 v) v ≡ true → ⊥
  no_vote v e = omega (
    arith,
    (vote_parts (holding_vector c i 3 v) v e).correct,
    correct_most (holding_vector c i 3 v) v (stored_other c i _),
  )

  silent_not_prime : {m : Message} {d : Base} {said : List Message} (T : Takes c i m d said) → (changed T).announce ≡ 0
      → prime_holds d ≡ true
      → ⊥
  silent_not_prime {d = d} T e = unannounced_not_prime d (subst NetSize (sym (takes_rest T).setting.n) N)
      (takes_each (λ (j : ℕ) (l : Link). announces l ≡ false) most_links T fits (no_announce (changed T) e)
      (λ j h. no_announce (link_at c j) (blank j h).announce))

  unheard_not_prime : {m : Message} {d : Base} {said : List Message} (T : Takes c i m d said) → (changed T).verify_count ≡ 0
      → prime_holds d ≡ true → ⊥
  unheard_not_prime {d = d} T e =
      unverified_not_prime d (subst NetSize (sym same.n) N) (subst₂ (λ (t n : ℕ). t ≤ most_faulty n) (sym same.t) (sym same.n) few)
      (λ j h g. takes_each (λ (k : ℕ) (l : Link). holds_verify l g ≡ false) most_links T fits (no_verify (changed T) g e)
      (λ k l. no_verify (link_at c k) g (blank k l).count) j h)
    where
      same : SameSetting c d
      same = (takes_rest T).setting

  no_prime : {m : Message} {d : Base} {said : List Message} → Takes c i m d said → prime_holds d ≡ true → ⊥
  unfolding changed with_announce with_verify with_vector
  no_prime (takes_announce g p q r) = unheard_not_prime (takes_announce g p q r) (blank i here).count
  no_prime (takes_verify g p q) = silent_not_prime (takes_verify g p q) (blank i here).announce
  no_prime (takes_correct v o p) = silent_not_prime (takes_correct v o p) (blank i here).announce
  no_prime (takes_and_votes v o p) = silent_not_prime (takes_and_votes v o p) (blank i here).announce
  no_prime (takes_verify_final v o) = silent_not_prime (takes_verify_final v o) (blank i here).announce

  no_decision : {m : Message} {d : Base} {said : List Message} {state : ℕ} {v : List ℕ} → Takes c i m d said → Decides d m state v → ⊥
  no_decision T (decides_prime H e) = no_prime T e
  no_decision {m = m} {d = d} T (decides_secondary H e) =
      omega (arith, (secondary_parts d (ids_of m) e).correct, correct_most d (ids_of m) (takes_other T))

  -- where nothing is broadcast
  silent : {d : Done} → d.base.state ≡ c.state → d.base.sent ≡ c.sent → d.says ≡ [] → Quiet c d
  unfolding encode_all
  silent p q e = record {
    state = p;
    sent = q;
    brief = record { few = omega (arith, ap length e); small = omega (arith, ap (λ (l : List Message). length (encode_all l)) e) };
    not_own = ap (own_slots c.own) e ∙ nothing_not_own c.own;
  }

  takes_quiet : {m : Message} {d : Base} {said : List Message} → Takes c i m d said → Quiet c (accepts d said)
  unfolding accepts with_link ids_of
  takes_quiet (takes_announce g p q r) = record {
    state = refl;
    sent = refl;
    brief = record { few = omega arith; small = omega (arith, bytes_one (verify g)) };
    not_own = verify_not_own c.own g (uncertified_other c g q);
  }
  takes_quiet (takes_verify g p q) = silent refl refl refl
  takes_quiet (takes_correct v o p) = silent refl refl refl
  takes_quiet (takes_and_votes v o p) = absurd (no_vote v p)
  takes_quiet (takes_verify_final v o) = silent refl refl refl

  ends_quiet : {m : Message} {d : Done} → Ends c i m d → Quiet c d
  unfolding discards
  ends_quiet discarding = silent refl refl refl
  ends_quiet (running_on T) = takes_quiet T
  ends_quiet (stopping T D) = absurd (no_decision T D)

  pub first_message : (m : Message) → Quiet c (on_message c i m)
  first_message m = ends_quiet (message_ends c i m)

-- ---- an idle base that was just started
begun_blank : (b : Base) → record_refusal b ≡ 0 → idle b ≡ true → HoldsNothing (begun b)
unfolding with_state link_at
begun_blank b e off = idle_place b (sound_parts b (record_passed b e).sound).idle off

pub idle_first : (b : Base) → Sized b → record_refusal b ≡ 0 → idle b ≡ true → (i : ℕ) → i < b.n - 1 → (m : Message)
    → Quiet (begun b) (on_message (begun b) i m)
unfolding with_state
idle_first b S e off i h m =
    let A = record_passed b e in
    first_message (begun b) A.net A.few (begun_blank b e off) i (omega (arith, S.links, A.net.most))
    (omega (arith, A.net.most)) m

-- A running base accepts a message: the message is stored, what it calls for is said, and the checks are made. Whatever the kind of the
-- message, that is a call as the argument knows it, from a few facts about each of the three.
use Rattle.std.specs.Prelude.{ℕ, ◌≤◌, ◌<◌, ◌≡◌, refl, ◌≢◌, ◌⊎◌}
use Rattle.std.proofs.Math.Path.{sym, subst}
use Rattle.std.proofs.Common.{ap, ◌∙◌, le_trans, arith}
use Rattle.std.proofs.Math.Logic.{inl, inr}
use mathlib.Core.List.Memᴰ
use mathlib.Core.List.{List, [], ◌∷◌, ◌++◌, List-discrete}
use Rattle.std.proofs.Math.Nat.{le_refl}
use Rattle.std.proofs.Math.Decide.{ℕ_discrete}
use Rattle.frame.specs.Message.{Message, announce, verify, correct_final, verify_final}
use Rattle.protocol.proofs.Agreement.Cases.{impossible}
use Rattle.protocol.specs.Agreement.Views.{View, Said, ViewHolds, corrects, holds_of, tally_of, lacks, suspect, Prime, Secondary, Lists}
use Rattle.protocol.proofs.Agreement.Storing.{Vector, ListOf, vector_or_not, list_or_not, Stored}
use Rattle.protocol.proofs.Agreement.Storing.{stored_names, stored_prime, stored_corrects, stored_secondary}
use Rattle.protocol.specs.Agreement.Calls.{message_input, Grows, Quiescent, Taken, Backed, Stopping, as_prime, as_secondary, ViewCall}

-- ---- what b broadcasts before the check, and whether a Verify-Final is sent after it
pub data Saying (n : ℕ) (m : Message) (b a : View) : ℕ → List Message → Type 0 where
  -- "Verify g is broadcast"
  says_name : (g : ℕ) → 1 ≤ g → m ≡ announce g → Saying n m b a b.sent (verify g ∷ [])
  -- "Verify-Final V is broadcast"
  says_vote : (v : List ℕ) → m ≡ correct_final v → b.sent ≡ 0 → 2 ≤ corrects n a v → Saying n m b a 1 (verify_final v ∷ [])
  says_nothing : ((g : ℕ) → m ≢ announce g) → ((v : List ℕ) → m ≡ correct_final v → b.sent ≡ 0 → corrects n a v ≤ 1)
      → Saying n m b a b.sent []

-- ---- the state and the final list after the check, and what is broadcast then
pub data Ending (n t me : ℕ) (m : Message) (a : View) : ℕ → List ℕ → List Message → Type 0 where
  runs_on : ((Vector m → ⊥) → Prime n t me a → ⊥) → ((v : List ℕ) → ListOf m v → Secondary n t a v → ⊥) → Ending n t me m a 1 a.final []
  ends_prime : (v : List ℕ) → Prime n t me a → Lists n a.named v → Ending n t me m a 2 v (correct_final v ∷ [])
  ends_secondary : (v : List ℕ) → Secondary n t a v → Ending n t me m a 3 v (correct_final v ∷ [])

-- the view that is left
unfoldable pub closing : View → ℕ → ℕ → List ℕ → View
closing a state sent final =
    record { state = state; sent = sent; final = final; named = a.named; verifies = a.verifies; correct = a.correct; vote = a.vote }

pub closing_prime : (n t me : ℕ) (a : View) (state sent : ℕ) (final : List ℕ) → Prime n t me (closing a state sent final) → Prime n t me a
unfolding closing suspect lacks
closing_prime n t me a state sent final P = record { all_named = P.all_named; tallies = P.tallies; few_suspects = P.few_suspects }

pub prime_closing : (n t me : ℕ) (a : View) (state sent : ℕ) (final : List ℕ) → Prime n t me a → Prime n t me (closing a state sent final)
unfolding closing suspect lacks
prime_closing n t me a state sent final P = record { all_named = P.all_named; tallies = P.tallies; few_suspects = P.few_suspects }

pub closing_secondary : (n t : ℕ) (a : View) (state sent : ℕ) (final v : List ℕ) → Secondary n t (closing a state sent final) v
    → Secondary n t a v
unfolding closing corrects tally_of holds_of
closing_secondary n t a state sent final v S = record { tally = S.tally; two = S.two }

pub secondary_closing : (n t : ℕ) (a : View) (state sent : ℕ) (final v : List ℕ) → Secondary n t a v
    → Secondary n t (closing a state sent final) v
unfolding closing corrects tally_of holds_of
secondary_closing n t a state sent final v S = record { tally = S.tally; two = S.two }

corrects_closing : (n : ℕ) (a : View) (state sent : ℕ) (final v : List ℕ) → corrects n (closing a state sent final) v ≡ corrects n a v
unfolding closing corrects
corrects_closing n a state sent final v = refl

module _ (n t me own x : ℕ) (x_in : x < n) (m : Message) (b a : View) (S : Stored x m b a) (runs : b.state ≡ 1)
    (quiescent : Quiescent n t me b) where
  -- ---- what is broadcast
  telling_sent : {sent : ℕ} {said : List Message} → Saying n m b a sent said → b.sent ≤ sent
  telling_sent (says_name g above e) = le_refl b.sent
  telling_sent (says_vote v e unsent two) = omega arith
  telling_sent (says_nothing no_name few) = le_refl b.sent

  telling_vote : {sent : ℕ} {said : List Message} → Saying n m b a sent said → (v : List ℕ) → Said (verify_final v) said
      → (m ≡ correct_final v) × (b.sent ≡ 0)
  telling_vote (says_name g above e) v h = let q = Memᴰ.eq_of_singleton h in impossible (cc)
  telling_vote (says_vote u e unsent two) v h = let q = Memᴰ.eq_of_singleton h in (cc, unsent)
  telling_vote (says_nothing no_name few) v h = absurd (Memᴰ.not-nil h)

  telling_few : {sent : ℕ} {said : List Message} → Saying n m b a sent said → (v : List ℕ) → m ≡ correct_final v → sent ≡ 0
      → corrects n a v ≤ 1
  telling_few (says_name g above e) v q z = impossible (cc)
  telling_few (says_vote u e unsent two) v q z = absurd (omega arith)
  telling_few (says_nothing no_name few) v q z = few v q z

  saying_vote : {sent : ℕ} {said : List Message} → Saying n m b a sent said → 1 ≤ sent
      → (1 ≤ b.sent) ⊎ ((v : List ℕ) × Said (verify_final v) said)
  saying_vote (says_name g above e) h = inl h
  saying_vote (says_vote v e unsent two) h = inr (v, Memᴰ.head refl)
  saying_vote (says_nothing no_name few) h = inl h

  telling_name : {sent : ℕ} {said : List Message} → Saying n m b a sent said → (g : ℕ) → m ≡ announce g → Said (verify g) said
  telling_name (says_name k above e) g q = Memᴰ.head (let r : announce g ≡ announce k = sym q ∙ e in let p : g ≡ k = cc in ap verify p)
  telling_name (says_vote v e unsent two) g q = impossible (cc)
  telling_name (says_nothing no_name few) g q = absurd (no_name g q)

  -- ---- how it ends
  ending_states : {state : ℕ} {final : List ℕ} {out : List Message} → Ending n t me m a state final out → (1 ≤ state) × (state ≤ 3)
  ending_states (runs_on p q) = omega arith
  ending_states (ends_prime v P L) = omega arith
  ending_states (ends_secondary v P) = omega arith

  ending_says : {state : ℕ} {final : List ℕ} {out : List Message} → Ending n t me m a state final out → (w : Message) → Said w out
      → (w ≡ correct_final final) × (2 ≤ state)
  ending_says (runs_on p q) w h = absurd (Memᴰ.not-nil h)
  ending_says (ends_prime v P L) w h = (Memᴰ.eq_of_singleton h, omega arith)
  ending_says (ends_secondary v P) w h = (Memᴰ.eq_of_singleton h, omega arith)

  ending_said : {state : ℕ} {final : List ℕ} {out : List Message} → Ending n t me m a state final out → 2 ≤ state
      → Said (correct_final final) out
  ending_said (runs_on p q) h = absurd (omega arith)
  ending_said (ends_prime v P L) h = Memᴰ.head refl
  ending_said (ends_secondary v P) h = Memᴰ.head refl

  ending_prime : {state : ℕ} {final : List ℕ} {out : List Message} → Ending n t me m a state final out → state ≡ 1 → Prime n t me a → ⊥
  ending_prime (runs_on p q) e P = elim (vector_or_not m) [
    | inl h ↦ quiescent.not_prime runs (stored_prime x m b a S n t me h P)
    | inr h ↦ p h P
  ]
  ending_prime (ends_prime v P L) e Q = omega arith
  ending_prime (ends_secondary v P) e Q = omega arith

  ending_secondary : {state : ℕ} {final : List ℕ} {out : List Message} → Ending n t me m a state final out → (v : List ℕ) → state ≡ 1
      → Secondary n t a v → ⊥
  ending_secondary (runs_on p q) v e P = elim (list_or_not m v) [
    | inl h ↦ q v h P
    | inr h ↦ quiescent.not_secondary v runs (stored_secondary x m b a S n t v h P)
  ]
  ending_secondary (ends_prime u P L) v e Q = omega arith
  ending_secondary (ends_secondary u P) v e Q = omega arith

  -- ---- the call
  module _ (sent state : ℕ) (final : List ℕ) (said out : List Message) (T : Saying n m b a sent said)
      (E : Ending n t me m a state final out) where
    abbrev c : View
    c = closing a state sent final

    c_grows : Grows b c
    unfolding closing
    c_grows = record {
      names = S.grows.names;
      verifies = S.grows.verifies;
      corrects = S.grows.corrects;
      votes = S.grows.votes;
      state = omega (arith, runs, (ending_states E).0);
      sent = telling_sent T;
      stays = λ h. absurd (omega (arith, runs));
    }

    c_quiescent : Quiescent n t me c
    c_quiescent = record {
      not_prime = λ e P. ending_prime E (is_state e) (closing_prime n t me a state sent final P);
      not_secondary = λ v e P. ending_secondary E v (is_state e) (closing_secondary n t a state sent final v P);
      has_voted = λ v e z. omega (arith, corrects_closing n a state sent final v, few v (is_sent z));
    }
      where
        is_state : c.state ≡ 1 → state ≡ 1
        is_state e = unfold closing in e

        is_sent : c.sent ≡ 0 → sent ≡ 0
        is_sent e = unfold closing in e

        correct_dec : (v : List ℕ) → (m ≡ correct_final v) ⊎ (m ≢ correct_final v)
        correct_dec v = go m
          where
            go : (w : Message) → (w ≡ correct_final v) ⊎ (w ≢ correct_final v)
            go (announce g) = inr (λ e. impossible (cc))
            go (verify g) = inr (λ e. impossible (cc))
            go (correct_final u) = elim (List-discrete ℕ_discrete u v) [ yes e ↦ inl (ap correct_final e) | no e ↦ inr (λ q. e (cc)) ]
            go (verify_final u) = inr (λ e. impossible (cc))

        few : (v : List ℕ) → sent ≡ 0 → corrects n a v ≤ 1
        few v z = elim (correct_dec v) [
          | inl e ↦ telling_few T v e z
          | inr e ↦ le_trans (stored_corrects x m b a S n v e) (quiescent.has_voted v runs (omega (arith, telling_sent T)))
        ]

    c_holds : (y : ℕ) (w : Message) → ViewHolds c y w → ViewHolds a y w
    unfolding closing
    c_holds y (announce g) h = h
    c_holds y (verify g) h = h
    c_holds y (correct_final v) h = h
    c_holds y (verify_final v) h = h

    c_taken : (y : ℕ) (w : Message) → message_input x m ≡ message_input y w → Taken n b c y w
    c_taken y w e = let p : x ≡ y = cc in let q : m ≡ w = cc in subst (λ z. Taken n b c z w) p (go w (subst (ViewHolds a x) q S.here))
      where
        go : (w : Message) → ViewHolds a x w → Taken n b c x w
        go (announce g) h = inl (x, x_in, sym (unfold closing in h.1))
        go (verify g) h = inl (unfold closing in h)
        go (correct_final v) h = inl (unfold closing in h)
        go (verify_final v) h = inl (unfold closing in h)

    c_stopping : 2 ≤ state → Stopping n t me b c
    c_stopping s = go E s
      where
        go : {state : ℕ} {final : List ℕ} {out : List Message} → Ending n t me m a state final out → 2 ≤ state
            → Stopping n t me b (closing a state sent final)
        go (runs_on p q) h = absurd (omega arith)
        go (ends_prime v P L) h = as_prime (unfold closing in refl) (prime_closing n t me a 2 sent v P) (unfold closing in L)
        go (ends_secondary v P) h = as_secondary (unfold closing in refl) (unfold closing in secondary_closing n t a 3 sent v v P)

    telling_backed : (w : Message) → Said w said → Backed n own c w
    telling_backed w h = go T w h
      where
        go : {sent : ℕ} {said : List Message} → Saying n m b a sent said → (w : Message) → Said w said
            → Backed n own (closing a state sent final) w
        go (says_name g above e) w h =
            subst (Backed n own (closing a state b.sent final)) (sym (Memᴰ.eq_of_singleton h)) (above, (x, x_in, name))
          where
            name : g ≡ (closing a state b.sent final).named x
            name = unfold closing in sym (subst (ViewHolds a x) e S.here).1
        go (says_vote v e unsent two) w h = subst (Backed n own (closing a state 1 final)) (sym (Memᴰ.eq_of_singleton h))
            (omega (arith, corrects_closing n a state 1 final v), (unfold closing in le_refl 1))
        go (says_nothing no_name few) w h = absurd (Memᴰ.not-nil h)

    vote_said : (v : List ℕ) → Said (verify_final v) (said ++ out) → (m ≡ correct_final v) × (b.sent ≡ 0)
    vote_said v h = elim (Memᴰ.append_cases said h) [
      | inl k ↦ telling_vote T v k
      | inr k ↦ (let q = (ending_says E (verify_final v) k).0 in impossible (cc))
    ]

    pub accepted_call : ViewCall n t me own (message_input x m) b c (said ++ out)
    accepted_call = record {
      grows = c_grows;
      runs = unfold closing in (ending_states E).0;
      quiescent = c_quiescent;
      heard = λ y w ne h. elim (S.heard y w (c_holds y w h)) [ inl k ↦ inl k | inr k ↦ inr (same y w k.0 k.1) ];
      taken = λ y w e s. c_taken y w e;
      stopping = λ s. c_stopping (unfold closing in s);
      backed = λ w h. elim (Memᴰ.append_cases said h) [ inl k ↦ telling_backed w k | inr k ↦ ended w (ending_says E w k) ];
      vote_first = λ v h. (vote_said v h).1;
      vote_one = λ v u h k. (let p = (vote_said v h).0 in let q = (vote_said u k).0 in cc);
      start_said = λ s. inl (omega (arith, runs));
      names_said = λ y l h. elim (stored_names x m b a S y (unfold closing in h)) [
        | inl e ↦ inl (omega (arith, runs), (unfold closing in e))
        | inr e ↦ inr (named_said y e)
      ];
      vote_said = λ s. elim (saying_vote T (unfold closing in s)) [ inl k ↦ inl k | inr k ↦ inr (k.0, Memᴰ.append_left out k.1) ];
      stop_said = λ s. inr (final_said s);
    }
      where
        same : (y : ℕ) (w : Message) → y ≡ x → w ≡ m → message_input x m ≡ message_input y w
        same y w e f = rw (e, f)

        ended : (w : Message) → (w ≡ correct_final final) × (2 ≤ state) → Backed n own c w
        ended w h = subst (Backed n own c) (sym h.0) (unfold closing in (h.1, refl))

        named_said : (y : ℕ) → m ≡ announce (a.named y) → Said (verify (c.named y)) (said ++ out)
        named_said y e = unfold closing in Memᴰ.append_left out (telling_name T (a.named y) e)

        final_said : 2 ≤ c.state → Said (correct_final c.final) (said ++ out)
        final_said s = unfold closing in Memᴰ.append_right said (ending_said E s)

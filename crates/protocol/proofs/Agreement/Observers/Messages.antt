-- A message that arrives at a running base is a call as the argument knows it, for each of the four kinds of document 01.
use Rattle.std.specs.Prelude.{ℕ, ◌-◌, ◌≤◌, ◌<◌, ◌≡◌, ◌≢◌, Bool, eqb, length, take}
use Rattle.std.proofs.Math.Path.{refl, subst}
use Rattle.std.proofs.Common.{◌∙◌, arith}
use Rattle.std.proofs.Math.Logic.{inl, inr}
use Rattle.std.proofs.Math.Bool.{true, false, not}
use mathlib.Core.List.{List, [], ◌∷◌}
use borrow.Author.Tests.{eqb-true, eqb-false, eq-eqb, leb-true, leb-false, not-true, not-false}
use Rattle.std.proofs.Math.Dec.{leb}
use Rattle.lists.specs.Choice.{or}
use Rattle.lists.specs.Choice.Laws.{choose_ind, and_true, and_both, or_true, or_false, clash}
use Rattle.lists.specs.Lists.{nonzero, member}
use Rattle.frame.specs.Message.{Message, announce, verify, correct_final, verify_final, ids_of, Valid}
use Rattle.protocol.specs.declared.Link.{Link}
use Rattle.protocol.specs.declared.Base.{Base}
use Rattle.protocol.specs.Links.{announces, holds_verify, full}
use Rattle.protocol.proofs.Links.Laws.{announces_some, count_used}
use Rattle.protocol.specs.Record.{link_at, certified, correct_count, final_list}
use Rattle.protocol.specs.Record.Memory.{Sized}
use Rattle.protocol.proofs.Sound.Laws.{link_sound_lem, held_list}
use Rattle.protocol.proofs.Sound.Changes.{not_full}
use Rattle.protocol.proofs.Sound.Running.{Runs, runs_admitted, takes_runs}
use Rattle.protocol.specs.Steps.{Done, accepts, with_link, with_sent, with_announce, with_verify, with_vector, prime_check}
use Rattle.protocol.specs.Steps.{secondary_check, on_announce, on_verify, votes, vote, on_correct_final, on_verify_final, on_message}
use Rattle.protocol.proofs.Steps.Cases.{Takes, takes_announce, takes_verify, takes_correct}
use Rattle.protocol.proofs.Steps.Cases.{takes_and_votes, takes_verify_final, holding_vector}
use Rattle.protocol.proofs.Steps.Laws.{takes_rest}
use Rattle.protocol.proofs.Agreement.Cases.{impossible}
use Rattle.protocol.specs.Agreement.Views.{View, corrects}
use Rattle.protocol.specs.Agreement.Calls.{Quiescent, Taken}
use Rattle.protocol.proofs.Agreement.Storing.{Stored}
use Rattle.protocol.proofs.Agreement.Accepting.{Saying, says_name, says_vote, says_nothing}
use Rattle.protocol.proofs.Agreement.Observers.{place_of, view, ArrivalCall}
use Rattle.protocol.proofs.Agreement.Observers.Places.{place_inside}
use Rattle.protocol.proofs.Agreement.Observers.Counts.{corrects_seen}
use Rattle.protocol.proofs.Agreement.Observers.Names.{named_other, certified_named}
use Rattle.protocol.proofs.Agreement.Observers.LinkChanges.{announce_changes, verify_changes, correct_changes}
use Rattle.protocol.proofs.Agreement.Observers.LinkChanges.{vote_changes, held_correct, held_vote}
use Rattle.protocol.proofs.Agreement.Observers.Stores.{seen_verify, seen_correct, seen_vote, changed_stored}
use Rattle.protocol.proofs.Agreement.Observers.Endings.{discarded_call, full_seen, prime_call}
use Rattle.protocol.proofs.Agreement.Observers.Endings.{secondary_call, sent_closing, valid_length}

above_zero : (n g : ℕ) → Valid n (announce g) → 1 ≤ g
unfolding ids_of nonzero
above_zero n g w = go (eqb-false g 0 (not-true (eqb g 0) (and_true (not (eqb g 0)) true w.above_zero).0))
  where
    go : (g ≡ 0 → ⊥) → 1 ≤ g
    go h = omega (arith, h)

module _ (me : ℕ) (b : Base) (inside : me < b.n) (R : Runs b) (S : Sized b) (quiescent : Quiescent b.n b.t me (view me b)) (x : ℕ)
    (x_in : x < b.n) (ne : x ≢ me) where
  abbrev n : ℕ
  n = b.n

  abbrev see : View
  see = view me b

  abbrev i : ℕ
  i = place_of me x

  abbrev link : Link
  link = link_at b i

  below : i < n - 1
  below = place_inside me x n inside x_in ne

  fits : i < length b.links
  fits = omega (arith, below, R.standing.net.most, S.links)

  -- ---- "Announce g: discarded if that link has an Announce, if g is certified, or if the link's list is full."
  announce_call : (g : ℕ) → Valid n (announce g) → ArrivalCall me b x (announce g) (on_announce b i g)
  unfolding on_announce
  announce_call g w =
      choose_ind (ArrivalCall me b x (announce g)) _
      (λ e. discarded_call me b inside R S quiescent x x_in ne (announce g) (discarded e)) accepted
    where
      discarded : or (announces link) (or (member g (certified b)) (full n link)) ≡ true → Taken n see see x (announce g)
      discarded e = elim (or_true (announces link) (or (member g (certified b)) (full n link)) e) [
        | inl p ↦ inr (inl (omega (arith, announces_some link p, named_other me b x ne)))
        | inr q ↦ elim (or_true (member g (certified b)) (full n link) q) [
          | inl p ↦ inl (certified_named me b (record { net = R.standing.net; inside = inside }) g p)
          | inr p ↦ inr (inr (full_seen me b inside R S quiescent x x_in ne p))
        ]
      ]

      accepted : or (announces link) (or (member g (certified b)) (full n link)) ≡ false
          → ArrivalCall me b x (announce g) (prime_check (with_link b i (with_announce link g)) (verify g ∷ []))
      accepted e =
          let p = or_false (announces link) (or (member g (certified b)) (full n link)) e in
          let q = or_false (member g (certified b)) (full n link) p.1 in
          let T : Takes b i (announce g) (with_link b i (with_announce link g)) (verify g ∷ []) = takes_announce g p.0 q.0 q.1 in
          prime_call me b inside R S quiescent x x_in ne (announce g) w (with_link b i (with_announce link g))
          (changed_stored me b x ne (announce g) (with_announce link g) fits (announce_changes n link g (above_zero n g w) p.0))
          (takes_rest T).setting (takes_runs R S below T w) (verify g ∷ []) (unfold with_link view in says_name g (above_zero n g w) refl)
          (λ v h. h)

  -- ---- "Verify g: discarded if that link holds Verify g or is full."
  verify_call : (g : ℕ) → Valid n (verify g) → ArrivalCall me b x (verify g) (on_verify b i g)
  unfolding on_verify
  verify_call g w =
      choose_ind (ArrivalCall me b x (verify g)) _
      (λ e. discarded_call me b inside R S quiescent x x_in ne (verify g) (discarded e)) accepted
    where
      discarded : or (holds_verify link g) (full n link) ≡ true → Taken n see see x (verify g)
      discarded e = elim (or_true (holds_verify link g) (full n link) e) [
        | inl p ↦ inl (seen_verify me b x ne g ∙ p)
        | inr p ↦ inr (full_seen me b inside R S quiescent x x_in ne p)
      ]

      room : full n link ≡ false → link.verify_count < length link.verifies
      room e = omega (
        arith,
        not_full n link e,
        count_used link,
        (S.each i (omega (arith, below, R.standing.net.most))).verifies,
        R.standing.net.most,
      )

      accepted : or (holds_verify link g) (full n link) ≡ false
          → ArrivalCall me b x (verify g) (prime_check (with_link b i (with_verify link g)) [])
      accepted e =
          let p = or_false (holds_verify link g) (full n link) e in
          let T : Takes b i (verify g) (with_link b i (with_verify link g)) [] = takes_verify g p.0 p.1 in
          prime_call me b inside R S quiescent x x_in ne (verify g) w (with_link b i (with_verify link g))
          (changed_stored me b x ne (verify g) (with_verify link g) fits (verify_changes n link g (room p.1)))
          (takes_rest T).setting (takes_runs R S below T w) []
          (unfold with_link view in says_nothing (λ k q. impossible (cc)) (λ v q. impossible (cc))) (λ v h. h)

  -- ---- "Correct-Final V: discarded if the link holds any Correct-Final. Else it replaces what the link holds."
  module _ (v : List ℕ) (w : Valid n (correct_final v)) where
    abbrev holding_correct : Base
    holding_correct = holding_vector b i 3 v

    correct_stored : link.held ≢ 3 → Stored x (correct_final v) see (view me holding_correct)
    correct_stored free = changed_stored me b x ne (correct_final v) (with_vector link 3 v) fits
        (correct_changes n link v (valid_length n (correct_final v) v refl w) free)

    -- what discards a Correct-Final is another one
    correct_held : eqb link.held 3 ≡ true → Taken n see see x (correct_final v)
    correct_held e =
        inr (take n link.list, seen_correct me b x ne (take n link.list) ∙ held_correct n link (eqb-true link.held 3 e))

    corrects_now : corrects n (view me holding_correct) v ≡ correct_count holding_correct v
    unfolding with_link
    corrects_now = corrects_seen me holding_correct (record { net = R.standing.net; inside = inside }) v

    -- "If no Verify-Final was ever sent and two or more links now hold Correct-Final V, Verify-Final V is broadcast."
    vote_said : votes holding_correct v ≡ true
        → Saying n (correct_final v) see (view me holding_correct) (with_sent holding_correct).sent (verify_final v ∷ [])
    unfolding votes with_sent
    vote_said e =
        let p = and_true _ _ e in
        says_vote v refl (unfold view with_link in eqb-true b.sent 0 p.0)
        (omega (arith, corrects_now, leb-true 2 (correct_count holding_correct v) p.1))

    nothing_said : votes holding_correct v ≡ false → Saying n (correct_final v) see (view me holding_correct) holding_correct.sent []
    nothing_said e = unfold with_link view in says_nothing (λ k q. impossible (cc)) few
      where
        few : (u : List ℕ) → correct_final v ≡ correct_final u → b.sent ≡ 0 → corrects n (view me holding_correct) u ≤ 1
        few u q unsent = let r : v ≡ u = cc in
            subst (λ z. corrects n (view me holding_correct) z ≤ 1) r (go (leb 2 (correct_count holding_correct v)) refl)
          where
            go : (t : Bool) → leb 2 (correct_count holding_correct v) ≡ t → corrects n (view me holding_correct) v ≤ 1
            go true f =
                let both : votes holding_correct v ≡ true = unfold votes with_link in and_both (eq-eqb b.sent 0 unsent) f in
                clash both e
            go false f = omega (arith, corrects_now, leb-false 2 (correct_count holding_correct v) f)

    voting : link.held ≢ 3 → votes holding_correct v ≡ true
        → ArrivalCall me b x (correct_final v) (secondary_check (with_sent holding_correct) v (verify_final v ∷ []))
    voting free e =
        let T : Takes b i (correct_final v) (with_sent holding_correct) (verify_final v ∷ []) = takes_and_votes v free e in
        secondary_call me b inside R S quiescent x x_in ne (correct_final v) w holding_correct (with_sent holding_correct)
        (correct_stored free)
        (takes_rest T).setting (takes_runs R S below T w) (sent_closing me holding_correct) (verify_final v ∷ []) (vote_said e) v refl tt
        (unfold view with_sent final_list in refl)

    not_voting : link.held ≢ 3 → votes holding_correct v ≡ false
        → ArrivalCall me b x (correct_final v) (secondary_check holding_correct v [])
    not_voting free e =
        let T : Takes b i (correct_final v) holding_correct [] = takes_correct v free e in
        secondary_call me b inside R S quiescent x x_in ne (correct_final v) w holding_correct holding_correct (correct_stored free)
        (takes_rest T).setting (takes_runs R S below T w) (λ s p f. refl) [] (nothing_said e) v refl tt refl

    correct_call : ArrivalCall me b x (correct_final v) (on_correct_final b i v)
    unfolding on_correct_final vote accepts
    correct_call = choose_ind (ArrivalCall me b x (correct_final v)) _
        (λ e. discarded_call me b inside R S quiescent x x_in ne (correct_final v) (correct_held e))
        (λ e. choose_ind (λ (d : Done). ArrivalCall me b x (correct_final v) (secondary_check d.base v d.says)) (votes holding_correct v)
        (voting (eqb-false link.held 3 e)) (not_voting (eqb-false link.held 3 e)))

  -- ---- "Verify-Final V: discarded if the link holds any vector message. Else held"
  vote_call : (v : List ℕ) → Valid n (verify_final v) → ArrivalCall me b x (verify_final v) (on_verify_final b i v)
  unfolding on_verify_final
  vote_call v w =
      choose_ind (ArrivalCall me b x (verify_final v)) _
      (λ e. discarded_call me b inside R S quiescent x x_in ne (verify_final v) (discarded e)) accepted
    where
      discarded : not (eqb link.held 0) ≡ true → Taken n see see x (verify_final v)
      discarded e = let some = eqb-false link.held 0 (not-true (eqb link.held 0) e) in
          elim (held_list n link (link_sound_lem b (runs_admitted R) i below).held some).0 [
            | inl k ↦ inr (inl (take n link.list, seen_correct me b x ne (take n link.list) ∙ held_correct n link k))
            | inr k ↦ inr (inr (take n link.list, seen_vote me b x ne (take n link.list) ∙ held_vote n link k))
          ]

      accepted : not (eqb link.held 0) ≡ false → ArrivalCall me b x (verify_final v) (secondary_check (holding_vector b i 4 v) v [])
      accepted e =
          let free : link.held ≡ 0 = eqb-true link.held 0 (not-false (eqb link.held 0) e) in
          let T : Takes b i (verify_final v) (holding_vector b i 4 v) [] = takes_verify_final v free in
          secondary_call me b inside R S quiescent x x_in ne (verify_final v) w (holding_vector b i 4 v) (holding_vector b i 4 v)
          (changed_stored me b x ne (verify_final v) (with_vector link 4 v) fits
          (vote_changes n link v (valid_length n (verify_final v) v refl w) free))
          (takes_rest T).setting (takes_runs R S below T w) (λ s p f. refl) []
          (unfold with_link view in says_nothing (λ k q. impossible (cc)) (λ u q. impossible (cc))) v refl tt refl

  pub message_call : (m : Message) → Valid n m → ArrivalCall me b x m (on_message b i m)
  unfolding on_message
  message_call (announce g) w = announce_call g w
  message_call (verify g) w = verify_call g w
  message_call (correct_final v) w = correct_call v w
  message_call (verify_final v) w = vote_call v w

-- The ways in which a message that arrives at a running base ends, as calls that the argument
-- knows: it is discarded, or it is stored and the prime check or the secondary check follows.
use Rattle.std.specs.Prelude.{ℕ, ◌+◌, ◌-◌, ◌≤◌, ◌<◌, min, ◌≡◌, refl, ◌≢◌, Bool, true, length}
use Rattle.std.proofs.Math.Path.{sym, ap, subst, subst₂}
use Rattle.std.proofs.Common.{◌∙◌, inl}
use Rattle.std.proofs.Math.Bool.{false}
use mathlib.Core.List.Memᴰ
use mathlib.Core.List.{List, [], ◌∷◌, ◌++◌, append-nil}
use native.Mathlib.Omega.{arith}
use borrow.Author.Tests.{eqb-true, leb-true}
use Rattle.std.proofs.Math.ListN.{length-take}
use Rattle.limits.specs.Limits.{most_bases, most_links}
use Rattle.lists.specs.Choice.{choose, or}
use Rattle.lists.specs.Choice.Laws.{choose_ind, and_true, clash}
use Rattle.lists.specs.Lists.{sort}
use Rattle.lists.specs.Lists.Laws.{pad_front}
use Rattle.lists.specs.Lists.Sorted.{length_sort}
use Rattle.counting.specs.Sums.{bit}
use Rattle.frame.specs.Message.{Message, announce, verify, correct_final, verify_final, kind_of, ids_of, holds_one, expected, Valid}
use Rattle.protocol.specs.declared.Link.{Link}
use Rattle.protocol.specs.declared.Base.{Base}
use Rattle.protocol.specs.Links.{announces, verifies_of, used, full}
use Rattle.protocol.proofs.Links.Laws.{announces_some}
use Rattle.protocol.specs.Record.{link_at, certified, final_list, links}
use Rattle.protocol.specs.Record.Memory.{Sized}
use Rattle.protocol.proofs.Sound.Laws.{count_room}
use Rattle.protocol.proofs.Sound.Running.{Runs, runs_admitted}
use Rattle.protocol.specs.Steps.{discards, accepts, with_sent, with_state, with_final}
use Rattle.protocol.specs.Steps.{prime_holds, secondary_holds, stops, prime_check, secondary_check, vote}
use Rattle.protocol.proofs.Steps.Laws.{SameSetting}
use Rattle.protocol.specs.Agreement.Views.{View, Prime, Secondary, Lists}
use Rattle.protocol.specs.Agreement.Calls.{ViewInput, message_input, Quiescent, Full, Taken, before, ViewCall}
use Rattle.protocol.proofs.Agreement.Growth.{grows_not}
use Rattle.protocol.proofs.Agreement.Storing.{Vector, ListOf, Stored}
use Rattle.protocol.proofs.Agreement.Accepting.{Saying, Ending, runs_on, ends_prime, ends_secondary}
use Rattle.protocol.proofs.Agreement.Accepting.{closing, closing_secondary, secondary_closing, accepted_call}
use Rattle.protocol.proofs.Agreement.Observers.{place_of, link_for, view, ArrivalCall}
use Rattle.protocol.proofs.Agreement.Observers.Places.{place_inside, link_other}
use Rattle.protocol.proofs.Agreement.Observers.Counts.{Inside}
use Rattle.protocol.proofs.Agreement.Observers.Names.{named_other}
use Rattle.protocol.proofs.Agreement.Observers.Checks.{secondary_seen, seen_secondary, prime_seen, seen_prime, sorted_lists}

-- ---- a call that changes nothing
pub unchanged_call : (n t me own : ℕ) (i : ViewInput) (b : View) → Quiescent n t me b → 1 ≤ b.state
    → ((x : ℕ) (m : Message) → i ≡ message_input x m → b.state ≤ 1 → Taken n b b x m) → ViewCall n t me own i b b []
unchanged_call n t me own i b quiescent on taken = record {
  grows = grows_not b;
  runs = on;
  quiescent = quiescent;
  heard = λ x m ne h. inl h;
  taken = taken;
  stopping = λ s. before s;
  backed = λ m h. absurd (Memᴰ.not-nil h);
  vote_first = λ v h. absurd (Memᴰ.not-nil h);
  vote_one = λ v u h k. absurd (Memᴰ.not-nil h);
  start_said = λ s. inl s;
  names_said = λ x l h. inl (on, refl);
  vote_said = λ s. inl s;
  stop_said = λ s. inl s;
}

-- ---- the views that the checks leave
runs_view : (me : ℕ) (c : Base) → c.state ≡ 1 → view me c ≡ closing (view me c) 1 c.sent (view me c).final
unfolding view closing
runs_view me c e = λ j. record {
  state = e j;
  sent = c.sent;
  final = final_list c;
  named = (view me c).named;
  verifies = (view me c).verifies;
  correct = (view me c).correct;
  vote = (view me c).vote;
}

stops_view : (me : ℕ) (c : Base) (state : ℕ) (v : List ℕ) (said : List Message) → length v ≡ c.n
    → view me (stops c state v said).base ≡ closing (view me c) state c.sent v
unfolding view closing stops accepts with_state with_final final_list link_for link_at
stops_view me c state v said e = λ j. record {
  state = state;
  sent = c.sent;
  final = pad_front most_bases v c.n e j;
  named = (view me c).named;
  verifies = (view me c).verifies;
  correct = (view me c).correct;
  vote = (view me c).vote;
}

pub sent_closing : (me : ℕ) (c : Base) (state sent : ℕ) (final : List ℕ)
    → closing (view me (with_sent c)) state sent final ≡ closing (view me c) state sent final
unfolding closing view with_sent link_for link_at
sent_closing me c state sent final = refl

-- a list message holds n identifiers
pub valid_length : (n : ℕ) (m : Message) (v : List ℕ) → ListOf m v → Valid n m → length v ≡ n
unfolding ids_of kind_of expected holds_one or choose
valid_length n (announce g) v h w = absurd h
valid_length n (verify g) v h w = absurd h
valid_length n (correct_final u) v h w = ap length (sym h) ∙ w.count
valid_length n (verify_final u) v h w = ap length (sym h) ∙ w.count

module _ (me : ℕ) (b : Base) (inside : me < b.n) (R : Runs b) (S : Sized b) (quiescent : Quiescent b.n b.t me (view me b)) (x : ℕ)
    (x_in : x < b.n) (ne : x ≢ me) where
  abbrev n : ℕ
  n = b.n

  abbrev t : ℕ
  t = b.t

  abbrev see : View
  see = view me b

  abbrev i : ℕ
  i = place_of me x

  abbrev link : Link
  link = link_at b i

  H : Inside me b
  H = record { net = R.standing.net; inside = inside }

  below : i < n - 1
  below = place_inside me x n inside x_in ne

  fits : i < length b.links
  fits = omega (arith, below, R.standing.net.most, S.links)

  see_running : see.state ≡ 1
  unfolding view
  see_running = R.state

  -- ---- discarded
  pub discarded_call : (m : Message) → Taken n see see x m → ArrivalCall me b x m (discards b)
  unfolding discards
  discarded_call m taken =
      unchanged_call n t me b.own (message_input x m) see quiescent (omega (arith, see_running)) (λ y w e s. moved y w e)
    where
      moved : (y : ℕ) (w : Message) → message_input x m ≡ message_input y w → Taken n see see y w
      moved y w e =
          let p : x ≡ y = cc in
          let q : m ≡ w = cc in
          subst (λ z. Taken n see see z w) p (subst (λ z. Taken n see see x z) q taken)

  pub full_seen : full n link ≡ true → Full n see x
  unfolding full used view
  full_seen e = omega (arith, leb-true (n + 1) (link.verify_count + bit (announces link)) e, length_verifies, named_other me b x ne, one)
    where
      here : i < most_links
      here = omega (arith, below, R.standing.net.most)

      counted : length (verifies_of link) ≡ link.verify_count
      counted = unfold verifies_of in omega
          (arith, length-take link.verify_count link.verifies, count_room b (runs_admitted R) i here, (S.each i here).verifies)

      length_verifies : length (verifies_of (link_for me b x)) ≡ link.verify_count
      length_verifies = ap (λ (l : Link). length (verifies_of l)) (link_other me b x ne) ∙ counted

      one : bit (announces link) ≤ min 1 link.announce
      one = go (announces link) refl
        where
          go : (p : Bool) → announces link ≡ p → bit p ≤ min 1 link.announce
          go true e = unfold bit in omega (arith, announces_some link e)
          go false e = unfold bit in omega arith

  -- ---- accepted: c holds the message, and perhaps a Verify-Final was sent
  module _ (m : Message) (w : Valid n m) (c₀ c : Base) (stored : Stored x m see (view me c₀)) (same : SameSetting b c) (Rc : Runs c)
      (closes : (state sent : ℕ) (final : List ℕ) → closing (view me c) state sent final ≡ closing (view me c₀) state sent final)
      (said : List Message) (T : Saying n m see (view me c₀) c.sent said) where
    Hc : Inside me c
    Hc = record { net = Rc.standing.net; inside = subst (λ k. me < k) (sym same.n) inside }

    -- c and c₀ differ in what was sent alone
    view_closing : view me c ≡ closing (view me c₀) 1 c.sent (view me c).final
    view_closing = runs_view me c Rc.state ∙ closes 1 c.sent (view me c).final

    ends : {state : ℕ} {final : List ℕ} {out : List Message} → Ending n t me m (view me c₀) state final out
        → ViewCall n t me b.own (message_input x m) see (closing (view me c₀) state c.sent final) (said ++ out)
    ends {state} {final} {out} E =
        accepted_call n t me b.own x x_in m see (view me c₀) stored see_running quiescent c.sent state final said out T E

    goes_on : ((Vector m → ⊥) → Prime n t me (view me c₀) → ⊥) → ((v : List ℕ) → ListOf m v → Secondary n t (view me c₀) v → ⊥)
        → (view me c).final ≡ (view me c₀).final → ArrivalCall me b x m (accepts c said)
    unfolding accepts
    goes_on not_prime not_secondary same_final = subst₂ (λ u o. ViewCall n t me b.own (message_input x m) see u o)
        (sym (view_closing ∙ ap (closing (view me c₀) 1 c.sent) same_final)) (append-nil said) (ends (runs_on not_prime not_secondary))

    stops_call : (state : ℕ) (v : List ℕ) → length v ≡ n → Ending n t me m (view me c₀) state v (correct_final v ∷ [])
        → ArrivalCall me b x m (stops c state v said)
    stops_call state v whole E =
        unfold stops accepts in subst (λ u. ViewCall n t me b.own (message_input x m) see u (said ++ (correct_final v ∷ [])))
        (sym (stops_view me c state v said (whole ∙ sym same.n) ∙ closes state c.sent v)) (ends E)

    -- "then the secondary check on V"
    pub secondary_call : (v : List ℕ) → ListOf m v → Vector m → (view me c).final ≡ (view me c₀).final
        → ArrivalCall me b x m (secondary_check c v said)
    unfolding secondary_check
    secondary_call v list vector same_final = choose_ind (ArrivalCall me b x m) (secondary_holds c v)
        (λ e. stops_call 3 v (valid_length n m v list w) (ends_secondary v (back v (secondary_seen me c Hc v e))))
        (λ e. goes_on (λ h. absurd (h vector))
        (λ u h P. clash (seen_secondary me c Hc v (there v (subst (Secondary n t (view me c₀)) (sym (only u h)) P))) e) same_final)
      where
        only : (u : List ℕ) → ListOf m u → v ≡ u
        only u h = go m list h
          where
            go : (z : Message) → ListOf z v → ListOf z u → v ≡ u
            go (announce g) p q = absurd p
            go (verify g) p q = absurd p
            go (correct_final k) p q = sym p ∙ q
            go (verify_final k) p q = sym p ∙ q

        back : (u : List ℕ) → Secondary c.n c.t (view me c) u → Secondary n t (view me c₀) u
        back u P = closing_secondary n t (view me c₀) 1 c.sent (view me c).final u
            (subst (λ z. Secondary n t z u) view_closing (subst₂ (λ a d. Secondary a d (view me c) u) same.n same.t P))

        there : (u : List ℕ) → Secondary n t (view me c₀) u → Secondary c.n c.t (view me c) u
        there u P = subst₂ (λ a d. Secondary a d (view me c) u) (sym same.n) (sym same.t)
            (subst (λ z. Secondary n t z u) (sym view_closing) (secondary_closing n t (view me c₀) 1 c.sent (view me c).final u P))

  -- "then the prime check", where c holds the message and nothing else is new
  module _ (m : Message) (w : Valid n m) (c : Base) (stored : Stored x m see (view me c)) (same : SameSetting b c) (Rc : Runs c)
      (said : List Message) (T : Saying n m see (view me c) c.sent said) (no_list : (v : List ℕ) → ListOf m v → ⊥) where
    Hp : Inside me c
    Hp = record { net = Rc.standing.net; inside = subst (λ k. me < k) (sym same.n) inside }

    pub prime_call : ArrivalCall me b x m (prime_check c said)
    unfolding prime_check
    prime_call = choose_ind (ArrivalCall me b x m) (prime_holds c)
        (λ e. stops_call m w c c stored same Rc (λ s p f. refl) said T 2 (sort (certified c)) (whole e)
        (ends_prime (sort (certified c)) (to_net (prime_seen me c Hp Rc.standing.own e)) (lists e)))
        (λ e. goes_on m w c c stored same Rc (λ s p f. refl) said T (λ h P. clash (seen_prime me c Hp (from_net P)) e)
        (λ v h. absurd (no_list v h)) refl)
      where
        to_net : Prime c.n c.t me (view me c) → Prime n t me (view me c)
        to_net P = subst₂ (λ a d. Prime a d me (view me c)) same.n same.t P

        from_net : Prime n t me (view me c) → Prime c.n c.t me (view me c)
        from_net P = subst₂ (λ a d. Prime a d me (view me c)) (sym same.n) (sym same.t) P

        whole : prime_holds c ≡ true → length (sort (certified c)) ≡ n
        whole e = length_sort (certified c) ∙ full_count ∙ same.n
          where
            full_count : length (certified c) ≡ c.n
            full_count = unfold prime_holds in eqb-true (length (certified c)) c.n (and_true _ _ e).0

        lists : prime_holds c ≡ true → Lists n (view me c).named (sort (certified c))
        lists e = subst (λ k. Lists k (view me c).named (sort (certified c))) same.n
            (sorted_lists me c Hp (prime_seen me c Hp Rc.standing.own e).all_named Rc.standing.apart)

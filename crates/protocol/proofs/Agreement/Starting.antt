-- A start of an idle base, and an arrival that starts it first, as calls of the argument. A base that has just been started holds nothing,
-- so both checks fail of it and it has nothing to vote for.
use Rattle.std.specs.Prelude.{ℕ, ◌≤◌, ◌<◌, ◌≡◌, refl, ◌≢◌, ◌⊎◌, false, List, [], ◌∷◌, ◌++◌}
use Rattle.std.proofs.Math.Path.{sym}
use Rattle.std.proofs.Common.{ap, ◌∙◌, subst, arith}
use Rattle.std.proofs.Math.Logic.{inl, inr}
use mathlib.Core.List.Memᴰ
use Rattle.std.proofs.Math.Nat.{le_refl}
use Rattle.std.proofs.Math.Decide.{ℕ_discrete}
use Rattle.counting.specs.Counts.{count_none}
use Rattle.frame.specs.Message.{Message, announce, verify, correct_final, verify_final}
use Rattle.protocol.proofs.Agreement.Cases.{zero_or_more, true_or_false, impossible}
use Rattle.protocol.specs.Agreement.Views.{View, Said, ViewHolds, corrects, Prime}
use Rattle.protocol.specs.Agreement.Calls.{start_input, message_input, SoundView, Taken, Backed}
use Rattle.protocol.specs.Agreement.Calls.{before, as_prime, as_secondary, ViewCall}
use Rattle.protocol.proofs.Agreement.Growth.{grows_then, backed_grows}
use Rattle.protocol.proofs.Agreement.Accepting.{closing}

-- "an idle base holds nothing from any link and has sent nothing"
pub record BlankView (n me : ℕ) (b : View) : Type 0 where
  pub idle : b.state ≡ 0
  pub unsent : b.sent ≡ 0
  pub nothing : (x : ℕ) (m : Message) → x < n → x ≢ me → ViewHolds b x m → ⊥

-- the base after its start
abbrev pub started_view : View → View
started_view b = closing b 1 b.sent b.final

started_state : (b : View) → (started_view b).state ≡ 1
unfolding closing
started_state b = refl

started_sent : (b : View) → (started_view b).sent ≡ b.sent
unfolding closing
started_sent b = refl

module _ (n t me own : ℕ) (two : 2 ≤ n) (me_in : me < n) (above : 1 ≤ own) (b : View) (sound : SoundView n me own b)
    (B : BlankView n me b) where
  abbrev says : List Message
  says = announce own ∷ (verify own ∷ [])

  unnamed : (x : ℕ) → x < n → x ≢ me → b.named x ≡ 0
  unnamed x l ne = elim (zero_or_more (b.named x)) [ inl e ↦ e | inr h ↦ absurd (B.nothing x (announce (b.named x)) l ne (h, refl)) ]

  uncorrected : (x : ℕ) (v : List ℕ) → x < n → b.correct x v ≡ false
  uncorrected x v l = elim (true_or_false (b.correct x v)) [
    | inr e ↦ e
    | inl h ↦ elim (ℕ_discrete x me) [
      | yes e ↦ ap (λ z. b.correct z v) e ∙ sound.own_correct v
      | no e ↦ absurd (B.nothing x (correct_final v) l e h)
    ]
  ]

  no_corrects : (v : List ℕ) → corrects n (started_view b) v ≡ 0
  unfolding corrects closing
  no_corrects v = count_none n (λ x. b.correct x v) (λ x l. uncorrected x v l)

  -- there is another base, and it has no name yet
  not_prime : Prime n t me (started_view b) → ⊥
  unfolding closing
  not_prime P = elim (ℕ_discrete me 0) [
    | yes e ↦ omega (arith, P.all_named 1 (omega arith), unnamed 1 (omega arith) (omega arith))
    | no e ↦ omega (arith, P.all_named 0 (omega arith), unnamed 0 (omega arith) (λ q. e (sym q)))
  ]

  only_own : (x : ℕ) → x < n → 1 ≤ b.named x → b.named x ≡ own
  only_own x l h = elim (ℕ_discrete x me) [ yes e ↦ ap b.named e ∙ sound.own_named | no e ↦ absurd (omega (arith, unnamed x l e)) ]

  no_vote : (v : List ℕ) → Said (verify_final v) says → ⊥
  no_vote v h = elim (Memᴰ.cases_cons h) [ inl e ↦ impossible (cc) | inr k ↦ (let e = Memᴰ.eq_of_singleton k in impossible (cc)) ]

  start_backed : (m : Message) → (m ≡ announce own) ⊎ Said m (verify own ∷ []) → Backed n own (started_view b) m
  start_backed m (inl e) = subst (Backed n own (started_view b)) (sym e) refl
  start_backed m (inr h) = subst (Backed n own (started_view b)) (sym (Memᴰ.eq_of_singleton h))
      (above, (me, me_in, (unfold closing in sym sound.own_named)))

  start_holds : (x : ℕ) (m : Message) → ViewHolds (started_view b) x m → ViewHolds b x m
  unfolding closing
  start_holds x (announce g) h = h
  start_holds x (verify g) h = h
  start_holds x (correct_final v) h = h
  start_holds x (verify_final v) h = h

  pub begins_call : ViewCall n t me own start_input b (started_view b) says
  begins_call = record {
    grows = unfold closing in record {
      names = λ x h. refl;
      verifies = λ x g h. h;
      corrects = λ x v h. h;
      votes = λ x v h. inl h;
      state = omega (arith, B.idle);
      sent = le_refl b.sent;
      stays = λ h. absurd (omega (arith, B.idle));
    };
    runs = omega (arith, started_state b);
    quiescent = record {
      not_prime = λ e P. not_prime P;
      not_secondary = λ v e P. omega (arith, P.two, no_corrects v);
      has_voted = λ v e z. omega (arith, no_corrects v);
    };
    heard = λ x m ne h. inl (start_holds x m h);
    taken = λ x m e s. impossible (cc);
    stopping = λ s. absurd (omega (arith, s, started_state b));
    backed = λ m h. start_backed m (Memᴰ.cases_cons h);
    vote_first = λ v h. absurd (no_vote v h);
    vote_one = λ v u h k. absurd (no_vote v h);
    start_said = λ s. inr (Memᴰ.head refl);
    names_said = λ x l h. inr (Memᴰ.tail (Memᴰ.head (ap verify (named x l h))));
    vote_said = λ s. inl (unfold closing in s);
    stop_said = λ s. absurd (omega (arith, s, started_state b));
  }
    where
      named : (x : ℕ) → x < n → 1 ≤ (started_view b).named x → (started_view b).named x ≡ own
      named x l h = unfold closing in only_own x l h

-- ---- an arrival at an idle base: the start, and then the arrival
module _ (n t me own x : ℕ) (m : Message) (b d : View) (said out : List Message) (off : b.state ≡ 0) (unsent : b.sent ≡ 0)
    (S : ViewCall n t me own start_input b (started_view b) said) (A : ViewCall n t me own (message_input x m) (started_view b) d out) where
  -- what the start broadcasts is no Verify-Final
  later : (v : List ℕ) → Said (verify_final v) (said ++ out) → Said (verify_final v) out
  later v h = elim (Memᴰ.append_cases said h) [
    | inr k ↦ k
    | inl k ↦ absurd (omega (arith, (S.backed (verify_final v) k).1, started_sent b, unsent))
  ]

  pub start_then_call : ViewCall n t me own (message_input x m) b d (said ++ out)
  start_then_call = record {
    grows = grows_then S.grows A.grows;
    runs = A.runs;
    quiescent = A.quiescent;
    heard = λ y w ne h. elim (A.heard y w ne h) [
      | inl k ↦ elim (S.heard y w ne k) [ inl q ↦ inl q | inr q ↦ impossible (cc) ]
      | inr k ↦ inr k
    ];
    taken = λ y w e s. same_taken y w (A.taken y w e s);
    stopping = λ s. elim (A.stopping s) [
      | before k ↦ absurd (omega (arith, k, started_state b))
      | as_prime e P L ↦ as_prime e P L
      | as_secondary e P ↦ as_secondary e P
    ];
    backed = λ w h. elim (Memᴰ.append_cases said h) [
      | inl k ↦ backed_grows n (started_view b) d A.grows own w (S.backed w k)
      | inr k ↦ A.backed w k
    ];
    vote_first = λ v h. unsent;
    vote_one = λ v u h k. A.vote_one v u (later v h) (later u k);
    start_said = λ s. elim (S.start_said (omega (arith, started_state b))) [ inl k ↦ inl k | inr k ↦ inr (Memᴰ.append_left out k) ];
    names_said = λ y l h. elim (A.names_said y l h) [
      | inl k ↦ elim (S.names_said y l (omega (arith, k.1))) [
        | inl q ↦ absurd (omega (arith, q.0))
        | inr q ↦ inr (subst (λ g. Said (verify g) (said ++ out)) (sym k.1) (Memᴰ.append_left out q))
      ]
      | inr k ↦ inr (Memᴰ.append_right said k)
    ];
    vote_said = λ s. elim (A.vote_said s) [
      | inl k ↦ absurd (omega (arith, k, started_sent b, unsent))
      | inr k ↦ inr (k.0, Memᴰ.append_right said k.1)
    ];
    stop_said = λ s. elim (A.stop_said s) [ inl k ↦ absurd (omega (arith, k, started_state b)) | inr k ↦ inr (Memᴰ.append_right said k) ];
  }
    where
      same_taken : (y : ℕ) (w : Message) → Taken n (started_view b) d y w → Taken n b d y w
      same_taken y (announce g) h = unfold closing in h
      same_taken y (verify g) h = unfold closing in h
      same_taken y (correct_final v) h = unfold closing in h
      same_taken y (verify_final v) h = unfold closing in h

-- The start and the arrival of document 01, on a record that is not turned down, are calls as the argument knows them; and a record that is
-- not turned down is sound as the argument asks. This is all that the argument takes from records and steps.
use Rattle.std.specs.Prelude.{ℕ, ◌≤◌, ◌<◌, ◌≡◌, ◌≢◌}
use Rattle.std.proofs.Math.Path.{refl, ap}
use Rattle.std.proofs.Common.{sym, ◌∙◌, subst, arith}
use Rattle.std.proofs.Math.Bool.{true, false}
use mathlib.Core.List.{List, [], ◌∷◌}
use Rattle.std.proofs.Math.Decide.{ℕ_discrete}
use borrow.Author.Tests.{eqb-true, eqb-false, leb-true, leb-false}
use Rattle.lists.specs.Choice.Laws.{choose_ind, clash}
use Rattle.lists.specs.Lists.{distinct}
use Rattle.frame.specs.Message.{Message, announce, verify, correct_final, verify_final, Valid}
use Rattle.protocol.specs.declared.Link.{Link}
use Rattle.protocol.specs.declared.Base.{Base}
use Rattle.protocol.specs.Links.{no_link, verifies_of, holds_vector, holds_correct, holds_verify_final}
use Rattle.protocol.proofs.Links.Laws.{no_verify, no_vector}
use Rattle.protocol.specs.Record.{link_at, final_list}
use Rattle.protocol.specs.Record.Memory.{Sized}
use Rattle.protocol.specs.Sound.{idle, stopped, record_refusal}
use Rattle.protocol.proofs.Sound.Laws.{Admitted, record_passed, SoundParts, sound_parts}
use Rattle.protocol.proofs.Sound.Laws.{EmptyParts, idle_unsent, idle_place, link_sound_lem}
use Rattle.protocol.proofs.Sound.Running.{begun_runs, admitted_runs}
use Rattle.protocol.specs.Steps.{Done, and_then, discards, accepts, with_state, on_message, begins, start_step, arrival_step}
use Rattle.protocol.specs.Steps.Cases.{begun}
use Rattle.protocol.proofs.Steps.Cases.{after_start, start_step_cases}
use Rattle.protocol.proofs.Steps.Memory.{begun_sized}
use Rattle.protocol.proofs.Agreement.Cases.{impossible}
use Rattle.protocol.specs.Agreement.Views.{ViewHolds}
use Rattle.protocol.specs.Agreement.Calls.{start_input, message_input, SoundView, Quiescent, ViewCall}
use Rattle.protocol.proofs.Agreement.Accepting.{closing}
use Rattle.protocol.proofs.Agreement.Starting.{BlankView, started_view, begins_call, start_then_call}
use Rattle.protocol.proofs.Agreement.Observers.{place_of, link_for, view, ArrivalCall}
use Rattle.protocol.proofs.Agreement.Observers.Places.{place_inside, link_own, link_other}
use Rattle.protocol.proofs.Agreement.Observers.Counts.{Inside}
use Rattle.protocol.proofs.Agreement.Observers.Names.{named_own, named_other, names_apart}
use Rattle.protocol.proofs.Agreement.Observers.Stores.{seen_verify, seen_correct, seen_vote}
use Rattle.protocol.proofs.Agreement.Observers.Endings.{unchanged_call}
use Rattle.protocol.proofs.Agreement.Observers.Messages.{message_call}

module _ (me : ℕ) (b : Base) (inside : me < b.n) (e : record_refusal b ≡ 0) where
  A : Admitted b
  A = record_passed b e

  parts : SoundParts b
  parts = sound_parts b A.sound

  H : Inside me b
  H = record { net = A.net; inside = inside }

  -- ---- a sound record
  pub sound_seen : SoundView b.n me b.own (view me b)
  sound_seen = record {
    own_named = named_own me b;
    states = unfold view in parts.state;
    names_apart = names_apart me b H parts.apart;
    own_correct = own_correct;
    own_vote = own_vote;
    verifies_once = once;
  }
    where
      own_correct : (v : List ℕ) → (view me b).correct me v ≡ false
      own_correct v = unfold view holds_correct in ap (λ (l : Link). holds_vector b.n 3 l v) (link_own me b)
          ∙ no_vector b.n 3 no_link v (omega arith)

      own_vote : (v : List ℕ) → (view me b).vote me v ≡ false
      own_vote v = unfold view holds_verify_final in ap (λ (l : Link). holds_vector b.n 4 l v) (link_own me b)
          ∙ no_vector b.n 4 no_link v (omega arith)

      once : (x : ℕ) → x < b.n → distinct ((view me b).verifies x) ≡ true
      once x l = unfold view in elim (ℕ_discrete x me) [
        | yes q ↦ ap (λ z. distinct (verifies_of (link_for me b z))) q ∙ ap (λ (k : Link). distinct (verifies_of k)) (link_own me b)
            ∙ nothing
        | no q ↦ ap (λ (k : Link). distinct (verifies_of k)) (link_other me b x q)
            ∙ (link_sound_lem b e (place_of me x) (place_inside me x b.n inside l q)).apart
      ]
        where
          nothing : distinct (verifies_of no_link) ≡ true
          nothing = unfold verifies_of distinct in refl

  -- ---- an idle one
  pub blank_seen : idle b ≡ true → BlankView b.n me (view me b)
  blank_seen off = record {
    idle = unfold idle view in eqb-true b.state 0 off;
    unsent = unfold view in idle_unsent b parts.idle off;
    nothing = nothing;
  }
    where
      empty : (x : ℕ) → x < b.n → x ≢ me → EmptyParts (link_at b (place_of me x))
      empty x l ne = idle_place b parts.idle off (place_of me x) (omega (arith, place_inside me x b.n inside l ne, A.net.most))

      nothing : (x : ℕ) (m : Message) → x < b.n → x ≢ me → ViewHolds (view me b) x m → ⊥
      nothing x (announce g) l ne h = omega (arith, h.0, h.1, named_other me b x ne, (empty x l ne).announce)
      nothing x (verify g) l ne h =
          clash (sym (seen_verify me b x ne g) ∙ h) (no_verify (link_at b (place_of me x)) g (empty x l ne).count)
      nothing x (correct_final v) l ne h = clash (sym (seen_correct me b x ne v) ∙ h)
          (unfold holds_correct in no_vector b.n 3 (link_at b (place_of me x)) v (omega (arith, (empty x l ne).held)))
      nothing x (verify_final v) l ne h = clash (sym (seen_vote me b x ne v) ∙ h)
          (unfold holds_verify_final in no_vector b.n 4 (link_at b (place_of me x)) v (omega (arith, (empty x l ne).held)))

  -- ---- the steps
  begun_view : view me (begun b) ≡ started_view (view me b)
  unfolding view with_state closing link_for link_at final_list
  begun_view = refl

  begin_call : idle b ≡ true
      → ViewCall b.n b.t me b.own start_input (view me b) (view me (begun b)) (announce b.own ∷ (verify b.own ∷ []))
  begin_call off =
      subst (λ z. ViewCall b.n b.t me b.own start_input (view me b) z (announce b.own ∷ (verify b.own ∷ []))) (sym begun_view)
      (begins_call b.n b.t me b.own A.net.least inside A.own (view me b) sound_seen (blank_seen off))

  on : idle b ≡ false → 1 ≤ (view me b).state
  unfolding idle view
  on e = go b.state (eqb-false b.state 0 e)
    where
      go : (s : ℕ) → s ≢ 0 → 1 ≤ s
      go s h = omega (arith, h)

  pub start_seen : Quiescent b.n b.t me (view me b)
      → ViewCall b.n b.t me b.own start_input (view me b) (view me (start_step b).base) (start_step b).says
  start_seen quiescent = start_step_cases
      (λ (d : Done). ViewCall b.n b.t me b.own start_input (view me b) (view me d.base) d.says) b
      (λ off. unfold begins accepts in begin_call off)
      (λ off. unfold discards in
      unchanged_call b.n b.t me b.own start_input (view me b) quiescent (on off) (λ x m q s. impossible (cc)))

  module _ (S : Sized b) (quiescent : Quiescent b.n b.t me (view me b)) (x : ℕ) (x_in : x < b.n) (ne : x ≢ me) (m : Message)
      (w : Valid b.n m) where
    stopped_call : stopped b ≡ true → ArrivalCall me b x m (discards b)
    unfolding discards
    stopped_call q = unchanged_call b.n b.t me b.own (message_input x m) (view me b) quiescent (omega (arith, high))
        (λ y z r s. absurd (omega (arith, high)))
      where
        high : 2 ≤ (view me b).state
        high = unfold stopped view in leb-true 2 b.state q

    -- an idle base starts first
    abbrev next : Done
    next = on_message (begun b) (place_of me x) m

    abbrev said : List Message
    said = announce b.own ∷ verify b.own ∷ []

    idle_call : idle b ≡ true → ArrivalCall me b x m (after_start b next)
    unfolding after_start
    idle_call off = start_then_call b.n b.t me b.own x m (view me b) (view me next.base) said next.says
        (blank_seen off).idle (blank_seen off).unsent
        (subst (λ z. ViewCall b.n b.t me b.own start_input (view me b) z said) begun_view (begin_call off))
        (subst (λ z. ViewCall b.n b.t me b.own (message_input x m) z (view me next.base) next.says) begun_view second)
      where
        second : ViewCall b.n b.t me b.own (message_input x m) (view me (begun b)) (view me next.base) next.says
        second = unfold with_state in message_call me (begun b) inside (begun_runs b e off) (begun_sized b S)
            (begin_call off).quiescent x x_in ne m w

    -- a running base takes the message up
    running_call : stopped b ≡ false → idle b ≡ false → ArrivalCall me b x m (on_message b (place_of me x) m)
    running_call p q = message_call me b inside (admitted_runs b e runs) S quiescent x x_in ne m w
      where
        runs : b.state ≡ 1
        runs = omega (arith, leb-false 2 b.state (unfold stopped in p), eqb-false b.state 0 (unfold idle in q))

    -- "An idle base starts first. A stopped base discards. Then by kind"
    pub arrival_seen : ArrivalCall me b x m (arrival_step b (place_of me x) m)
    unfolding arrival_step and_then begins accepts after_start
    arrival_seen = choose_ind (ArrivalCall me b x m) (stopped b) stopped_call
        (λ p. choose_ind (ArrivalCall me b x m) (idle b) idle_call (running_call p))

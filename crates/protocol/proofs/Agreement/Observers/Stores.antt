-- A link that has taken a message in, stored at its place in the record, is a message stored as the argument asks.
use Rattle.std.specs.Prelude.{ℕ, ◌≤◌, ◌<◌, ◌≡◌, ◌≢◌, ◌⊎◌, Bool, eqb, length}
use Rattle.std.proofs.Math.Path.{refl, ap}
use Rattle.std.proofs.Common.{sym, ◌∙◌, subst, inr, ne_eqb}
use Rattle.std.proofs.Math.Logic.{inl}
use Rattle.std.proofs.Math.Bool.{true}
use mathlib.Core.List.{List}
use Rattle.std.proofs.Math.Nat.{le_refl}
use Rattle.lists.specs.Choice.{choose}
use Rattle.lists.specs.Choice.Laws.{choose_no}
use Rattle.lists.specs.Lists.{member}
use Rattle.frame.specs.Message.{Message, announce, verify, correct_final, verify_final}
use Rattle.protocol.specs.declared.Link.{Link}
use Rattle.protocol.specs.declared.Base.{Base}
use Rattle.protocol.specs.Links.{verifies_of, holds_verify, holds_correct, holds_verify_final}
use Rattle.protocol.specs.Record.{link_at, final_list}
use Rattle.protocol.specs.Steps.{with_link}
use Rattle.protocol.specs.Agreement.Views.{View, ViewHolds}
use Rattle.protocol.specs.Agreement.Calls.{Grows}
use Rattle.protocol.proofs.Agreement.Storing.{Stored}
use Rattle.protocol.proofs.Agreement.Observers.{place_of, view}
use Rattle.protocol.proofs.Agreement.Observers.Places.{link_other, link_stored}
use Rattle.protocol.proofs.Agreement.Observers.Names.{named_other}
use Rattle.protocol.proofs.Agreement.Observers.LinkChanges.{LinkHolds, Changes}

module _ (me : ℕ) (b : Base) (x : ℕ) (ne : x ≢ me) where
  abbrev link : Link
  link = link_at b (place_of me x)

  -- the link to another base, as the view has it
  pub seen_verify : (g : ℕ) → member g ((view me b).verifies x) ≡ holds_verify link g
  unfolding view holds_verify
  seen_verify g = ap (λ (l : Link). member g (verifies_of l)) (link_other me b x ne)

  pub seen_correct : (v : List ℕ) → (view me b).correct x v ≡ holds_correct b.n link v
  unfolding view
  seen_correct v = ap (λ (l : Link). holds_correct b.n l v) (link_other me b x ne)

  pub seen_vote : (v : List ℕ) → (view me b).vote x v ≡ holds_verify_final b.n link v
  unfolding view
  seen_vote v = ap (λ (l : Link). holds_verify_final b.n l v) (link_other me b x ne)

  seen_holds : (w : Message) → LinkHolds b.n link w → ViewHolds (view me b) x w
  seen_holds (announce g) h = (h.0, named_other me b x ne ∙ h.1)
  seen_holds (verify g) h = seen_verify g ∙ h
  seen_holds (correct_final v) h = seen_correct v ∙ h
  seen_holds (verify_final v) h = seen_vote v ∙ h

  module _ (m : Message) (l : Link) (fits : place_of me x < length b.links) (C : Changes b.n m link l) where
    abbrev view_before : View
    view_before = view me b

    abbrev view_after : View
    view_after = view me (with_link b (place_of me x) l)

    -- what holds of the stored link, and of the others as they were, holds of the view after
    after_ind : (Q : ℕ → ℕ → List ℕ → (List ℕ → Bool) → (List ℕ → Bool) → Type 0)
        → Q x l.announce (verifies_of l) (holds_correct b.n l) (holds_verify_final b.n l)
        → ((y : ℕ) → y ≢ x → Q y (view_before.named y) (view_before.verifies y) (view_before.correct y) (view_before.vote y))
        → (y : ℕ) → Q y (view_after.named y) (view_after.verifies y) (view_after.correct y) (view_after.vote y)
    unfolding view with_link
    after_ind Q here other = link_stored
        (λ y k. Q y (choose (eqb y me) b.own k.announce) (verifies_of k) (holds_correct b.n k) (holds_verify_final b.n k)) me b x l
        ne fits
        (subst (λ g. Q x g (verifies_of l) (holds_correct b.n l) (holds_verify_final b.n l))
        (sym (choose_no b.own l.announce (ne_eqb x me ne))) here) other

    after_grows : Grows view_before view_after
    after_grows = record {
      names = after_ind (λ y name vs c w. 1 ≤ view_before.named y → name ≡ view_before.named y)
          (λ h. C.keeps_name (subst (λ g. 1 ≤ g) (named_other me b x ne) h) ∙ sym (named_other me b x ne)) (λ y d h. refl);
      verifies = λ y g. after_ind (λ y name vs c w. member g (view_before.verifies y) ≡ true → member g vs ≡ true)
          (λ h. unfold holds_verify in C.keeps_verify g (sym (seen_verify g) ∙ h)) (λ y d h. h) y;
      corrects = λ y v. after_ind (λ y name vs c w. view_before.correct y v ≡ true → c v ≡ true)
          (λ h. C.keeps_correct v (sym (seen_correct v) ∙ h)) (λ y d h. h) y;
      votes = λ y v. after_ind (λ y name vs c w. view_before.vote y v ≡ true → (w v ≡ true) ⊎ ((u : List ℕ) × (c u ≡ true)))
          (λ h. C.keeps_vote v (sym (seen_vote v) ∙ h)) (λ y d h. inl h) y;
      state = unfold view with_link in le_refl b.state;
      sent = unfold view with_link in le_refl b.sent;
      stays = unfold view with_link final_list in (λ h. (refl, refl));
    }

    new_or_old : (w : Message) → LinkHolds b.n l w → ViewHolds view_before x w ⊎ ((x ≡ x) × (w ≡ m))
    new_or_old w h = elim (C.heard w h) [ inl k ↦ inl (seen_holds w k) | inr k ↦ inr (refl, k) ]

    after_heard : (y : ℕ) (w : Message) → ViewHolds view_after y w → ViewHolds view_before y w ⊎ ((y ≡ x) × (w ≡ m))
    after_heard y (announce g) h = after_ind
        (λ y name vs c w. name ≡ g → ViewHolds view_before y (announce g) ⊎ ((y ≡ x) × (announce g ≡ m)))
        (λ e. new_or_old (announce g) (h.0, e)) (λ y d e. inl (h.0, e)) y h.1
    after_heard y (verify g) h = after_ind
        (λ y name vs c w. member g vs ≡ true → ViewHolds view_before y (verify g) ⊎ ((y ≡ x) × (verify g ≡ m)))
        (λ e. new_or_old (verify g) (unfold holds_verify in e)) (λ y d e. inl e) y h
    after_heard y (correct_final v) h = after_ind
        (λ y name vs c w. c v ≡ true → ViewHolds view_before y (correct_final v) ⊎ ((y ≡ x) × (correct_final v ≡ m)))
        (new_or_old (correct_final v)) (λ y d e. inl e) y h
    after_heard y (verify_final v) h = after_ind
        (λ y name vs c w. w v ≡ true → ViewHolds view_before y (verify_final v) ⊎ ((y ≡ x) × (verify_final v ≡ m)))
        (new_or_old (verify_final v)) (λ y d e. inl e) y h

    after_holds : (w : Message) → LinkHolds b.n l w → ViewHolds view_after x w
    after_holds (announce g) h = (h.0, after_ind (λ y name vs c w. y ≡ x → name ≡ g) (λ e. h.1) (λ y d e. absurd (d e)) x refl)
    after_holds (verify g) h =
        after_ind (λ y name vs c w. y ≡ x → member g vs ≡ true) (λ e. unfold holds_verify in h) (λ y d e. absurd (d e)) x refl
    after_holds (correct_final v) h = after_ind (λ y name vs c w. y ≡ x → c v ≡ true) (λ e. h) (λ y d e. absurd (d e)) x refl
    after_holds (verify_final v) h = after_ind (λ y name vs c w. y ≡ x → w v ≡ true) (λ e. h) (λ y d e. absurd (d e)) x refl

    pub changed_stored : Stored x m view_before view_after
    changed_stored =
        record { state = unfold view with_link in refl; grows = after_grows; heard = after_heard; here = after_holds m C.here }

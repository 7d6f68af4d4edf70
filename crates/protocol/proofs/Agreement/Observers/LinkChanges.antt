-- One link takes a message in, for each kind: what it held stays, but that a
-- Correct-Final replaces a Verify-Final, and nothing is new but the message.
use Rattle.std.specs.Prelude.{ℕ, ◌≤◌, ◌<◌, ◌≡◌, ◌≢◌, ◌⊎◌, false, List, [], ◌∷◌, ◌++◌, eqb, length, take, set}
use Rattle.std.proofs.Math.Path.{refl, ap}
use Rattle.std.proofs.Common.{sym, ◌∙◌, add-one, arith, eqb-true, take-suc-set}
use Rattle.std.proofs.Math.Logic.{inl, inr}
use Rattle.std.proofs.Math.Bool.{true}
use Rattle.limits.specs.Limits.{most_bases}
use Rattle.lists.specs.Choice.{and}
use Rattle.lists.specs.Choice.Laws.{and_true}
use Rattle.lists.specs.Lists.{member, same_list}
use Rattle.lists.specs.Lists.Laws.{pad_front}
use Rattle.lists.specs.Lists.Order.{member_front, member_last, member_snoc_cases}
use Rattle.lists.specs.Lists.Same.{same_equal, same_self}
use Rattle.frame.specs.Message.{Message, announce, verify, correct_final, verify_final}
use Rattle.protocol.specs.declared.Link.{Link}
use Rattle.protocol.specs.Links.{announces, verifies_of, holds_verify, holds_vector, holds_correct, holds_verify_final}
use Rattle.protocol.proofs.Links.Laws.{announces_none}
use Rattle.protocol.specs.Steps.{with_announce, with_verify, with_vector}

-- a link holds a message, in a net of n bases
abbrev pub LinkHolds : ℕ → Link → Message → Type 0
LinkHolds n l (announce g) = (1 ≤ g) × (l.announce ≡ g)
LinkHolds n l (verify g) = holds_verify l g ≡ true
LinkHolds n l (correct_final v) = holds_correct n l v ≡ true
LinkHolds n l (verify_final v) = holds_verify_final n l v ≡ true

pub record Changes (n : ℕ) (m : Message) (old new : Link) : Type 0 where
  pub keeps_name : 1 ≤ old.announce → new.announce ≡ old.announce
  pub keeps_verify : (g : ℕ) → holds_verify old g ≡ true → holds_verify new g ≡ true
  pub keeps_correct : (v : List ℕ) → holds_correct n old v ≡ true → holds_correct n new v ≡ true
  pub keeps_vote : (v : List ℕ) → holds_verify_final n old v ≡ true
      → (holds_verify_final n new v ≡ true) ⊎ ((u : List ℕ) × (holds_correct n new u ≡ true))
  pub heard : (w : Message) → LinkHolds n new w → LinkHolds n old w ⊎ (w ≡ m)
  pub here : LinkHolds n new m

-- ---- an Announce and a Verify leave the vector message alone
pub announce_changes : (n : ℕ) (l : Link) (g : ℕ) → 1 ≤ g → announces l ≡ false → Changes n (announce g) l (with_announce l g)
unfolding with_announce holds_verify verifies_of holds_correct holds_verify_final holds_vector
announce_changes n l g above silent = record {
  keeps_name = λ h. absurd (omega (arith, announces_none l silent));
  keeps_verify = λ k h. h;
  keeps_correct = λ v h. h;
  keeps_vote = λ v h. inl h;
  heard = heard;
  here = (above, refl);
}
  where
    heard : (w : Message) → LinkHolds n (with_announce l g) w → LinkHolds n l w ⊎ (w ≡ announce g)
    heard (announce k) h = inr (ap announce (sym h.1))
    heard (verify k) h = inl h
    heard (correct_final v) h = inl h
    heard (verify_final v) h = inl h

verify_added : (l : Link) (g : ℕ) → l.verify_count < length l.verifies → verifies_of (with_verify l g) ≡ verifies_of l ++ (g ∷ [])
unfolding verifies_of with_verify
verify_added l g room = ap (λ k. take k (set l.verifies l.verify_count g)) (add-one l.verify_count)
    ∙ take-suc-set l.verifies l.verify_count g room

pub verify_changes : (n : ℕ) (l : Link) (g : ℕ) → l.verify_count < length l.verifies → Changes n (verify g) l (with_verify l g)
unfolding holds_verify holds_correct holds_verify_final holds_vector with_verify
verify_changes n l g room = record {
  keeps_name = λ h. refl;
  keeps_verify = λ k h. ap (member k) (verify_added l g room) ∙ member_front k (verifies_of l) g h;
  keeps_correct = λ v h. h;
  keeps_vote = λ v h. inl h;
  heard = heard;
  here = ap (member g) (verify_added l g room) ∙ member_last (verifies_of l) g;
}
  where
    heard : (w : Message) → LinkHolds n (with_verify l g) w → LinkHolds n l w ⊎ (w ≡ verify g)
    heard (announce k) h = inl h
    heard (verify k) h = elim (member_snoc_cases k (verifies_of l) g (ap (member k) (sym (verify_added l g room)) ∙ h)) [
      | inl e ↦ inl e
      | inr e ↦ inr (ap verify (sym e))
    ]
    heard (correct_final v) h = inl h
    heard (verify_final v) h = inl h

-- ---- a vector message replaces what is held, and leaves the rest alone
vector_cases : (n kind : ℕ) (l : Link) (v : List ℕ) → holds_vector n kind l v ≡ true → (l.held ≡ kind) × (take n l.list ≡ v)
unfolding holds_vector
vector_cases n kind l v e =
    let p = and_true (eqb l.held kind) (same_list (take n l.list) v) e in
    (eqb-true l.held kind p.0, same_equal (take n l.list) v p.1)

pub correct_cases : (n : ℕ) (l : Link) (v : List ℕ) → holds_correct n l v ≡ true → (l.held ≡ 3) × (take n l.list ≡ v)
unfolding holds_correct
correct_cases n l v e = vector_cases n 3 l v e

pub vote_cases : (n : ℕ) (l : Link) (v : List ℕ) → holds_verify_final n l v ≡ true → (l.held ≡ 4) × (take n l.list ≡ v)
unfolding holds_verify_final
vote_cases n l v e = vector_cases n 4 l v e

pub held_correct : (n : ℕ) (l : Link) → l.held ≡ 3 → holds_correct n l (take n l.list) ≡ true
unfolding holds_correct holds_vector and
held_correct n l e = rw e (same_self (take n l.list))

pub held_vote : (n : ℕ) (l : Link) → l.held ≡ 4 → holds_verify_final n l (take n l.list) ≡ true
unfolding holds_verify_final holds_vector and
held_vote n l e = rw e (same_self (take n l.list))

module _ (n : ℕ) (l : Link) (v : List ℕ) (whole : length v ≡ n) where
  -- the list that is stored is read back whole
  stored_list : (kind : ℕ) → take n (with_vector l kind v).list ≡ v
  unfolding with_vector
  stored_list kind = pad_front most_bases v n whole

  correct_here : holds_correct n (with_vector l 3 v) v ≡ true
  correct_here = subst_list (held_correct n (with_vector l 3 v) (unfold with_vector in refl))
    where
      subst_list : holds_correct n (with_vector l 3 v) (take n (with_vector l 3 v).list) ≡ true
          → holds_correct n (with_vector l 3 v) v ≡ true
      subst_list h = ap (holds_correct n (with_vector l 3 v)) (sym (stored_list 3)) ∙ h

  vote_here : holds_verify_final n (with_vector l 4 v) v ≡ true
  vote_here = subst_list (held_vote n (with_vector l 4 v) (unfold with_vector in refl))
    where
      subst_list : holds_verify_final n (with_vector l 4 v) (take n (with_vector l 4 v).list) ≡ true
          → holds_verify_final n (with_vector l 4 v) v ≡ true
      subst_list h = ap (holds_verify_final n (with_vector l 4 v)) (sym (stored_list 4)) ∙ h

  kind_of_lem : (kind : ℕ) → (with_vector l kind v).held ≡ kind
  unfolding with_vector
  kind_of_lem kind = refl

  -- it holds the message of its kind and list, and no other vector message
  only_correct : (u : List ℕ) → holds_correct n (with_vector l 3 v) u ≡ true → u ≡ v
  only_correct u h = sym (correct_cases n (with_vector l 3 v) u h).1 ∙ stored_list 3

  only_vote : (u : List ℕ) → holds_verify_final n (with_vector l 4 v) u ≡ true → u ≡ v
  only_vote u h = sym (vote_cases n (with_vector l 4 v) u h).1 ∙ stored_list 4

  no_vote : (u : List ℕ) → holds_verify_final n (with_vector l 3 v) u ≡ true → ⊥
  no_vote u h = omega (arith, (vote_cases n (with_vector l 3 v) u h).0, kind_of_lem 3)

  no_correct : (u : List ℕ) → holds_correct n (with_vector l 4 v) u ≡ true → ⊥
  no_correct u h = omega (arith, (correct_cases n (with_vector l 4 v) u h).0, kind_of_lem 4)

  -- "Correct-Final V: discarded if the link holds any Correct-Final. Else it replaces what the link holds."
  pub correct_changes : l.held ≢ 3 → Changes n (correct_final v) l (with_vector l 3 v)
  correct_changes free = record {
    keeps_name = λ h. (unfold with_vector in refl);
    keeps_verify = λ k h. (unfold with_vector holds_verify verifies_of in h);
    keeps_correct = λ u h. absurd (free (correct_cases n l u h).0);
    keeps_vote = λ u h. inr (v, correct_here);
    heard = heard;
    here = correct_here;
  }
    where
      heard : (w : Message) → LinkHolds n (with_vector l 3 v) w → LinkHolds n l w ⊎ (w ≡ correct_final v)
      heard (announce k) h = inl (unfold with_vector in h)
      heard (verify k) h = inl (unfold with_vector holds_verify verifies_of in h)
      heard (correct_final u) h = inr (ap correct_final (only_correct u h))
      heard (verify_final u) h = absurd (no_vote u h)

  -- "Verify-Final V: discarded if the link holds any vector message. Else held"
  pub vote_changes : l.held ≡ 0 → Changes n (verify_final v) l (with_vector l 4 v)
  vote_changes free = record {
    keeps_name = λ h. (unfold with_vector in refl);
    keeps_verify = λ k h. (unfold with_vector holds_verify verifies_of in h);
    keeps_correct = λ u h. absurd (omega (arith, (correct_cases n l u h).0));
    keeps_vote = λ u h. absurd (omega (arith, (vote_cases n l u h).0));
    heard = heard;
    here = vote_here;
  }
    where
      heard : (w : Message) → LinkHolds n (with_vector l 4 v) w → LinkHolds n l w ⊎ (w ≡ verify_final v)
      heard (announce k) h = inl (unfold with_vector in h)
      heard (verify k) h = inl (unfold with_vector holds_verify verifies_of in h)
      heard (correct_final u) h = absurd (no_correct u h)
      heard (verify_final u) h = inr (ap verify_final (only_vote u h))

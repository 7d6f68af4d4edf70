-- A message is stored on a link: what is held stays, and only the message is new. So a message changes the checks by what it is about
-- alone: a vector message leaves the prime check as it was, and no message raises the counts of a list that it does not hold.
use Rattle.std.specs.Prelude.{ℕ, ◌≤◌, ◌<◌, ◌≡◌, refl, ◌≢◌, ◌⊎◌, true, not, eqb}
use Rattle.std.proofs.Common.{sym, ◌∙◌, subst, arith}
use Rattle.std.proofs.Math.Path.{ap, ap₂}
use Rattle.std.proofs.Math.Logic.{inl, inr}
use mathlib.Core.List.{List, List-discrete}
use Rattle.std.proofs.Math.Nat.{le_trans}
use Rattle.std.proofs.Math.Decide.{ℕ_discrete}
use Rattle.lists.specs.Choice.{and, or}
use Rattle.lists.specs.Lists.{member}
use Rattle.counting.specs.Sums.{bit, pairs}
use Rattle.counting.specs.Sums.Laws.{sum_cong}
use Rattle.counting.specs.Counts.{count_fewer}
use Rattle.counting.specs.Degrees.{total}
use Rattle.frame.specs.Message.{Message, announce, verify, correct_final, verify_final}
use Rattle.lists.specs.Choice.Laws.{clash}
use Rattle.protocol.proofs.Agreement.Cases.{zero_or_more, true_or_false, impossible}
use Rattle.protocol.specs.Agreement.Views.{View, ViewHolds, corrects, holds_of, tally_of, lacks, suspect, Prime, Secondary}
use Rattle.protocol.specs.Agreement.Calls.{Grows}
use Rattle.protocol.proofs.Agreement.Secondary.{held_cases, correct_held, vote_held}

-- a vector message, and the list that it holds
abbrev pub Vector : Message → Type 0
Vector (announce g) = ⊥
Vector (verify g) = ⊥
Vector (correct_final v) = Unit {0}
Vector (verify_final v) = Unit {0}

abbrev pub ListOf : Message → List ℕ → Type 0
ListOf (announce g) v = ⊥
ListOf (verify g) v = ⊥
ListOf (correct_final u) v = u ≡ v
ListOf (verify_final u) v = u ≡ v

pub vector_or_not : (m : Message) → Vector m ⊎ (Vector m → ⊥)
vector_or_not (announce g) = inr (λ h. h)
vector_or_not (verify g) = inr (λ h. h)
vector_or_not (correct_final u) = inl tt
vector_or_not (verify_final u) = inl tt

pub list_or_not : (m : Message) (v : List ℕ) → ListOf m v ⊎ (ListOf m v → ⊥)
list_or_not (announce g) v = inr (λ h. h)
list_or_not (verify g) v = inr (λ h. h)
list_or_not (correct_final u) v = elim (List-discrete ℕ_discrete u v) [ yes e ↦ inl e | no e ↦ inr e ]
list_or_not (verify_final u) v = elim (List-discrete ℕ_discrete u v) [ yes e ↦ inl e | no e ↦ inr e ]

-- a is b after m is stored on the link to x
pub record Stored (x : ℕ) (m : Message) (b a : View) : Type 0 where
  pub state : a.state ≡ b.state
  pub grows : Grows b a
  pub heard : (y : ℕ) (w : Message) → ViewHolds a y w → ViewHolds b y w ⊎ ((y ≡ x) × (w ≡ m))
  pub here : ViewHolds a x m

-- the prime check goes by names and Verifies alone
prime_same : (n t me : ℕ) (a b : View) → ((y : ℕ) → a.named y ≡ b.named y)
    → ((y g : ℕ) → member g (a.verifies y) ≡ member g (b.verifies y)) → Prime n t me a → Prime n t me b
prime_same n t me a b names verifies P = record {
  all_named = λ y l. subst (λ g. 1 ≤ g) (names y) (P.all_named y l);
  tallies = omega (arith, P.tallies, tallies_same);
  few_suspects = omega (arith, P.few_suspects, suspects_same);
}
  where
    held : (y z : ℕ) → member (a.named z) (a.verifies y) ≡ member (b.named z) (b.verifies y)
    held y z = verifies y (a.named z) ∙ ap (λ g. member g (b.verifies y)) (names z)

    tallies_same : total n (λ y z. bit (member (a.named z) (a.verifies y))) ≡ total n (λ y z. bit (member (b.named z) (b.verifies y)))
    tallies_same = unfold total in sum_cong n _ _ (λ y l. sum_cong n _ _ (λ z k. ap bit (held y z)))

    lacks_same : (y z : ℕ) → lacks me a y z ≡ lacks me b y z
    lacks_same y z = unfold lacks in ap (λ h. and (not (eqb y me)) (not h)) (held y z)

    suspect_same : (y z : ℕ) → suspect me a y z ≡ suspect me b y z
    suspect_same y z = unfold suspect in ap₂ (λ p q. bit (and (not (eqb y z)) (or p q))) (lacks_same y z) (lacks_same z y)

    suspects_same : pairs n (suspect me a) ≡ pairs n (suspect me b)
    suspects_same = unfold pairs in sum_cong n _ _ (λ y l. sum_cong y _ _ (λ z k. suspect_same y z))

module _ (x : ℕ) (m : Message) (b a : View) (S : Stored x m b a) where
  -- a name is as it was, or is what m announces
  pub stored_names : (y : ℕ) → 1 ≤ a.named y → (a.named y ≡ b.named y) ⊎ (m ≡ announce (a.named y))
  stored_names y above = elim (S.heard y (announce (a.named y)) (above, refl)) [ inl h ↦ inl (sym h.1) | inr h ↦ inr (sym h.1) ]

  pub stored_prime : (n t me : ℕ) → Vector m → Prime n t me a → Prime n t me b
  stored_prime n t me vector P = prime_same n t me a b names verifies P
    where
      not_name : (g : ℕ) (w : Message) → Vector w → w ≡ announce g → ⊥
      not_name g (announce k) h e = h
      not_name g (verify k) h e = h
      not_name g (correct_final v) h e = impossible (cc)
      not_name g (verify_final v) h e = impossible (cc)

      not_verify : (g : ℕ) (w : Message) → Vector w → w ≡ verify g → ⊥
      not_verify g (announce k) h e = h
      not_verify g (verify k) h e = h
      not_verify g (correct_final v) h e = impossible (cc)
      not_verify g (verify_final v) h e = impossible (cc)

      names : (y : ℕ) → a.named y ≡ b.named y
      names y = elim (zero_or_more (a.named y)) [
        | inr above ↦ elim (stored_names y above) [ inl e ↦ e | inr e ↦ absurd (not_name (a.named y) m vector e) ]
        | inl none ↦ elim (zero_or_more (b.named y)) [ inr above ↦ S.grows.names y above | inl e ↦ none ∙ sym e ]
      ]

      verifies : (y g : ℕ) → member g (a.verifies y) ≡ member g (b.verifies y)
      verifies y g = elim (true_or_false (member g (a.verifies y))) [
        | inl h ↦ elim (S.heard y (verify g) h) [ inl k ↦ h ∙ sym k | inr k ↦ absurd (not_verify g m vector (sym k.1)) ]
        | inr h ↦ elim (true_or_false (member g (b.verifies y))) [ inl k ↦ clash (S.grows.verifies y g k) h | inr k ↦ h ∙ sym k ]
      ]

  pub stored_corrects : (n : ℕ) (v : List ℕ) → m ≢ correct_final v → corrects n a v ≤ corrects n b v
  unfolding corrects
  stored_corrects n v ne = count_fewer n (λ y. a.correct y v) (λ y. b.correct y v)
      (λ y l h. elim (S.heard y (correct_final v) h) [ inl k ↦ k | inr k ↦ absurd (ne (sym k.1)) ])

  pub stored_secondary : (n t : ℕ) (v : List ℕ) → (ListOf m v → ⊥) → Secondary n t a v → Secondary n t b v
  unfolding tally_of
  stored_secondary n t v other P = record {
    tally = le_trans P.tally (count_fewer n (holds_of a v) (holds_of b v) held);
    two = le_trans P.two (stored_corrects n v (λ e. other (list_of m e)));
  }
    where
      list_of : (w : Message) → w ≡ correct_final v → ListOf w v
      list_of (announce g) e = impossible (cc)
      list_of (verify g) e = impossible (cc)
      list_of (correct_final u) e = cc
      list_of (verify_final u) e = impossible (cc)

      list_of_vote : (w : Message) → w ≡ verify_final v → ListOf w v
      list_of_vote (announce g) e = impossible (cc)
      list_of_vote (verify g) e = impossible (cc)
      list_of_vote (correct_final u) e = impossible (cc)
      list_of_vote (verify_final u) e = cc

      held : (y : ℕ) → y < n → holds_of a v y ≡ true → holds_of b v y ≡ true
      held y l h = elim (held_cases a v y h) [
        | inl c ↦ elim (S.heard y (correct_final v) c) [ inl k ↦ correct_held b v y k | inr k ↦ absurd (other (list_of m (sym k.1))) ]
        | inr c ↦ elim (S.heard y (verify_final v) c) [ inl k ↦ vote_held b v y k | inr k ↦ absurd (other (list_of_vote m (sym k.1))) ]
      ]

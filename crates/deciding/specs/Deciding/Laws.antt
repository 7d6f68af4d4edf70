-- A decision as the code takes it apart: one prime check for kinds 1 and 2, one secondary check for kinds 3 and 4.
use Rattle.std.specs.Prelude.{ℕ, ◌≤◌, ◌<◌, ◌≡◌, ◌≢◌, Bool, List, take}
use Rattle.std.proofs.Math.Path.{refl, sym}
use Rattle.std.proofs.Common.{ap, ◌∙◌, arith}
use Rattle.std.proofs.Math.Bool.{true, false}
use borrow.Author.Tests.{eqb-true, eqb-false}
use Rattle.std.proofs.Math.Dec.{eqb}
use Rattle.lists.specs.Choice.{choose, and}
use Rattle.protocol.specs.declared.Base.{Base}
use Rattle.protocol.specs.Steps.{votes}
use Rattle.change.specs.Heard.Laws.{kind_one, kind_two, kind_three, kind_four, kind_none}
use Rattle.deciding.specs.declared.Decision.{Decision}
use Rattle.deciding.specs.Deciding.{runs_on, prime_decision, secondary_decision, vote_decision, decision_of}

-- with the state and the final list that the base has
unfoldable pub runs_with : ℕ → List ℕ → ℕ → ℕ → Decision
runs_with state kept first sent = record { first = first; sent = sent; stops = false; state = state; final_list = kept }

pub runs_kept : (b : Base) (kept : List ℕ) (first sent : ℕ) → kept ≡ b.final_list
    → runs_with b.state kept first sent ≡ runs_on b first sent
unfolding runs_with runs_on
runs_kept b kept first sent e = ap (λ (l : List ℕ). runs_with b.state l first sent) e

-- the kind by which an Announce is echoed, zero for a Verify
unfoldable pub echo_of : ℕ → ℕ
echo_of kind = choose (eqb kind 1) 2 0

-- a Correct-Final alone is followed by a vote
unfoldable pub votes_on : Base → ℕ → List ℕ → Bool
votes_on b kind v = and (eqb kind 3) (votes b (take b.n v))

unfoldable pub vector_decision : Base → ℕ → List ℕ → Decision
vector_decision b kind v = secondary_decision b (choose (votes_on b kind v) 4 0) (choose (votes_on b kind v) 1 b.sent) v

module _ (b : Base) (kind : ℕ) (ids : List ℕ) where
  pub one_decides : kind ≢ 0 → kind ≤ 2 → prime_decision b (echo_of kind) ≡ decision_of b kind ids
  unfolding echo_of decision_of choose
  one_decides h k = go (eqb kind 1) refl
    where
      go : (t : Bool) → eqb kind 1 ≡ t → prime_decision b (choose t 2 0) ≡ decision_of b kind ids
      go true e = sym (kind_one _ _ _ _ _ (eqb-true kind 1 e))
      go false e = let q : kind ≡ 2 = omega (arith, h, eqb-false kind 1 e) in sym (kind_two _ _ _ _ _ q)

  by_vote : (t : Bool)
      → secondary_decision b (choose t 4 0) (choose t 1 b.sent) ids
      ≡ choose t (secondary_decision b 4 1 ids) (secondary_decision b 0 b.sent ids)
  unfolding choose
  by_vote true = refl
  by_vote false = refl

  pub vector_decides : 2 < kind → kind ≤ 4 → vector_decision b kind ids ≡ decision_of b kind ids
  unfolding vector_decision votes_on decision_of and choose vote_decision
  vector_decides h k = go (eqb kind 3) refl
    where
      go : (t : Bool) → eqb kind 3 ≡ t
          → (let x = and t (votes b (take b.n ids)) in secondary_decision b (choose x 4 0) (choose x 1 b.sent) ids)
          ≡ decision_of b kind ids
      go true e = by_vote (votes b (take b.n ids)) ∙ sym (kind_three _ _ _ _ _ (eqb-true kind 3 e))
      go false e = let q : kind ≡ 4 = omega (arith, eqb-false kind 3 e) in sym (kind_four _ _ _ _ _ q)

  pub none_decides : (kind ≡ 1 → ⊥) → (kind ≡ 2 → ⊥) → (kind ≡ 3 → ⊥) → (kind ≡ 4 → ⊥) → runs_on b 0 b.sent ≡ decision_of b kind ids
  unfolding decision_of
  none_decides p q r s = sym (kind_none _ _ _ _ _ p q r s)

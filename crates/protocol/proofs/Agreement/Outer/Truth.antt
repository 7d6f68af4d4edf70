-- The true identifiers, sorted: a list that a Correct-Final may hold, with the same leader as the identifiers in any order.
use Prim.Native.Nat.{ℕ, zero, suc, ◌<◌}
use Rattle.std.specs.Prelude.{◌≡◌, ◌⊎◌, List, [], ◌∷◌}
use Rattle.std.proofs.Math.Path.{refl, sym}
use Rattle.std.proofs.Common.{ap, ◌∙◌, inl, inr, arith}
use Rattle.std.proofs.Math.Bool.{true, false, not}
use Rattle.std.proofs.Math.Nat.{le_refl}
use Rattle.std.proofs.Math.Decide.{ℕ_discrete}
use Rattle.lists.specs.Choice.Laws.{and_both}
use Rattle.lists.specs.Lists.{member, distinct, sort}
use Rattle.lists.specs.Lists.Order.{member_none}
use Rattle.lists.specs.Lists.Sets.{member_head, member_tail, member_cases}
use Rattle.lists.specs.Lists.Sorted.{member_sort, ascending_sort}
use Rattle.counting.specs.Pigeonhole.{Injective, Met}
use Rattle.protocol.specs.Steps.{leader_of}
use Rattle.protocol.proofs.Steps.Leading.{leader_member, leader_most}
use Rattle.protocol.specs.Net.{Net}
use Rattle.protocol.specs.Agreement.{true_identifiers}
use Rattle.protocol.proofs.Agreement.Cases.{true_or_false}
use Rattle.protocol.specs.Agreement.Views.{Lists}

-- the identifier of base x + 1
abbrev pub true_of : Net → ℕ → ℕ
true_of W x = (W.base (suc x)).own

module _ (W : Net) where
  pub true_member : (n x : ℕ) → x < n → member (true_of W x) (true_identifiers n W) ≡ true
  unfolding true_identifiers
  true_member zero x l = absurd (omega arith)
  true_member (suc n) x l = elim (ℕ_discrete x n) [
    | yes e ↦ rw e (member_head (true_of W n) (true_identifiers n W))
    | no e ↦ member_tail (true_of W x) (true_of W n) (true_identifiers n W) (true_member n x (omega arith))
  ]

  member_true : (n g : ℕ) → member g (true_identifiers n W) ≡ true → Met n (true_of W) g
  unfolding true_identifiers
  member_true zero g h = absurd (member_none g h)
  member_true (suc n) g h = go (member_cases g (true_of W n) (true_identifiers n W) h) (λ k. member_true n g k)
    where
      go : (true_of W n ≡ g) ⊎ (member g (true_identifiers n W) ≡ true) → (member g (true_identifiers n W) ≡ true → Met n (true_of W) g)
          → Met (suc n) (true_of W) g
      go (inl e) rest = (n, le_refl (suc n), sym e)
      go (inr k) rest = let w = rest k in (w.0, omega (arith, w.1), w.2)

  true_distinct : (n : ℕ) → Injective n (true_of W) → distinct (true_identifiers n W) ≡ true
  unfolding true_identifiers distinct
  true_distinct zero apart = refl
  true_distinct (suc n) apart = and_both (ap not (fresh (true_or_false (member (true_of W n) (true_identifiers n W)))))
      (true_distinct n (λ x y lx ly e. apart x y (omega arith) (omega arith) e))
    where
      fresh : (member (true_of W n) (true_identifiers n W) ≡ true) ⊎ (member (true_of W n) (true_identifiers n W) ≡ false)
          → member (true_of W n) (true_identifiers n W) ≡ false
      fresh (inr e) = e
      fresh (inl e) =
          let w = member_true n (true_of W n) e in
          let q = apart n w.0 (le_refl (suc n)) (omega (arith, w.1)) w.2 in
          absurd (omega (arith, w.1))

  pub truth_listed : (n : ℕ) → Injective n (true_of W) → Lists n (true_of W) (sort (true_identifiers n W))
  truth_listed n apart = record {
    ascends = ascending_sort (true_identifiers n W) (true_distinct n apart);
    only = λ g h. member_true n g (sym (member_sort g (true_identifiers n W)) ∙ h);
    all = λ x l. member_sort (true_of W x) (true_identifiers n W) ∙ true_member n x l;
  }

-- the largest of a list is the largest of the list sorted
pub leader_sort : (l : List ℕ) → leader_of (sort l) ≡ leader_of l
leader_sort [] = unfold sort in refl
leader_sort (x ∷ l) = go (sort (x ∷ l)) (λ z. member_sort z (x ∷ l))
  where
    go : (k : List ℕ) → ((z : ℕ) → member z k ≡ member z (x ∷ l)) → leader_of k ≡ leader_of (x ∷ l)
    go [] same = absurd (member_none x (same x ∙ member_head x l))
    go (y ∷ k) same = omega (
      arith,
      leader_most (x ∷ l) (leader_of (y ∷ k)) (sym (same (leader_of (y ∷ k))) ∙ leader_member y k),
      leader_most (y ∷ k) (leader_of (x ∷ l)) (same (leader_of (x ∷ l)) ∙ leader_member x l),
    )

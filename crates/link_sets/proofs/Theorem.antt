-- Every set comes up just one time and none is left out. A number has a size and a place among the sets of that size (`Count/Sizes`). The
-- sets of a size are parts of the net's pairs in their order (`Choosing`), and these are all pairs of the net (`Pairs`).
use Rattle.std.specs.Prelude.{ℕ, suc, ◌+◌, ◌<◌, ◌≤◌, ◌≡◌, refl, List, [], ◌∷◌, length}
use Rattle.std.proofs.Common.{sym, ◌∙◌, subst, subst₂, inl, inr, arith}
use Rattle.std.proofs.Math.Path.{ap}
use Rattle.std.proofs.Math.Decide.{dec_lt}
use Rattle.std.proofs.Math.ListN.{get_or}
use Rattle.link_sets.specs.declared.LinkPair.{LinkPair}
use Rattle.link_sets.specs.Pairs.{net_pairs}
use Rattle.link_sets.proofs.Pairs.Laws.{pairs_counted}
use Rattle.link_sets.specs.Sets.{sets_of, sets_up_to, faulty_sets, faulty_set_at}
use Rattle.link_sets.proofs.Sets.Laws.{set_size}
use Rattle.link_sets.specs.Count.{choices, choices_below, set_count}
use Rattle.link_sets.proofs.Count.Laws.{sets_counted, below_counted}
use Rattle.link_sets.proofs.Count.Sizes.{BySize, below_next, size_found, sized_at}
use Rattle.link_sets.specs.Statement.{OfNet, Ascending, LinkSet, LowerPair, Lower, EachOnce}
use Rattle.link_sets.proofs.Theorem.Members.{Among, each_as, each_within}
use Rattle.link_sets.proofs.Theorem.Pairs.{not_itself, pairs_of_net, pairs_ascend, pairs_whole}
use Rattle.link_sets.proofs.Theorem.Choosing.{set_part, set_lower, set_place}
pub mod Choosing
pub mod Members
pub mod Pairs

-- ---- no set precedes itself
pair_not_lower : (s : List LinkPair) → LowerPair s s → ⊥
pair_not_lower [] h = h
pair_not_lower (p ∷ s) (inl h) = not_itself p h
pair_not_lower (p ∷ s) (inr h) = pair_not_lower s h.1

set_not_lower : (s : List LinkPair) → Lower s s → ⊥
set_not_lower s (inl h) = omega arith
set_not_lower s (inr h) = pair_not_lower s h.1

-- ---- sets of an ascending list, by their sizes and places
module _ (l : List LinkPair) (a : Ascending l) where
  one_size : (k r q : ℕ) → q < length (sets_of k l) → r < q → Lower (get_or (sets_of k l) r []) (get_or (sets_of k l) q [])
  one_size k r q less h = inr (set_size k l r (omega arith) ∙ sym (set_size k l q less), set_lower k l a r q h less)

  by_size : (k c r q : ℕ) → r < choices (length l) k → q < choices (length l) c
      → choices_below (length l) k + r < choices_below (length l) c + q → Lower (get_or (sets_of k l) r []) (get_or (sets_of c l) q [])
  by_size k c r q lr lq h =
      let mr : r < length (sets_of k l) = omega (arith, sets_counted k l) in
      let mq : q < length (sets_of c l) = omega (arith, sets_counted c l) in
      elim (dec_lt k c) [
        | yes y ↦ inl (omega (arith, set_size k l r mr, set_size c l q mq))
        | no y ↦ elim (dec_lt c k) [
          | yes x ↦ absurd (omega (arith, below_next (length l) c k x))
          | no x ↦ same mq (omega arith)
        ]
      ]
    where
      same : q < length (sets_of c l) → c ≡ k → Lower (get_or (sets_of k l) r []) (get_or (sets_of c l) q [])
      same mq e = subst (λ (j : ℕ). Lower (get_or (sets_of j l) r []) (get_or (sets_of c l) q [])) e
          (one_size c r q mq (omega (arith, ap (choices_below (length l)) e)))

module _ (n t : ℕ) where
  -- ---- a number's size and its place there
  pub sets_many : length (faulty_sets n t) ≡ set_count n t
  unfolding faulty_sets set_count
  sets_many = below_counted t (net_pairs n) ∙ ap (λ (m : ℕ). choices_below m (suc t)) (pairs_counted n)

  sized : (i : ℕ) → i < length (faulty_sets n t) → BySize (length (net_pairs n)) t i
  unfolding faulty_sets
  sized i h = size_found (length (net_pairs n)) t i (omega (arith, below_counted t (net_pairs n)))

  pub set_there : (i k r : ℕ) → k ≤ t → r < choices (length (net_pairs n)) k → i ≡ choices_below (length (net_pairs n)) k + r
      → faulty_set_at n t i ≡ get_or (sets_of k (net_pairs n)) r []
  unfolding faulty_set_at faulty_sets
  set_there i k r few less e = ap (λ (j : ℕ). get_or (sets_up_to t (net_pairs n)) j []) e ∙ sized_at (net_pairs n) t k r few less

  -- ---- a set of k has the form that is asked
  among_sets : (k r : ℕ) → k ≤ t → r < length (sets_of k (net_pairs n)) → LinkSet n t (get_or (sets_of k (net_pairs n)) r [])
  among_sets k r few less =
      let P = set_part k (net_pairs n) r less in
      record {
        few = omega (arith, set_size k (net_pairs n) r less);
        of_net = each_within (OfNet n) (get_or (sets_of k (net_pairs n)) r []) (net_pairs n) P.within (pairs_of_net n);
        ascends = P.ascends (pairs_ascend n);
      }

  sets_are : (i : ℕ) → i < length (faulty_sets n t) → LinkSet n t (faulty_set_at n t i)
  sets_are i h =
      let S = sized i h in
      subst (LinkSet n t) (sym (set_there i S.size S.rest S.few S.less S.is))
      (among_sets S.size S.rest S.few (omega (arith, sets_counted S.size (net_pairs n), S.less)))

  -- ---- none is left out
  within : (k r : ℕ) → k ≤ t → r < choices (length (net_pairs n)) k → choices_below (length (net_pairs n)) k + r < length (faulty_sets n t)
  unfolding faulty_sets
  within k r few less = omega (arith, below_next (length (net_pairs n)) k (suc t) (omega arith), below_counted t (net_pairs n))

  sets_whole : (s : List LinkPair) → LinkSet n t s → (i : ℕ) × (i < length (faulty_sets n t)) × (faulty_set_at n t i ≡ s)
  sets_whole s S =
      let members = each_as (OfNet n) (λ p. Among p (net_pairs n)) (pairs_whole n) s S.of_net in
      let P = set_place (net_pairs n) (pairs_ascend n) s members S.ascends in
      let m = length (net_pairs n) in
      let less : P.number < choices m (length s) = omega (arith, P.there, sets_counted (length s) (net_pairs n)) in (
        choices_below m (length s) + P.number,
        within (length s) P.number S.few less,
        set_there (choices_below m (length s) + P.number) (length s) P.number S.few less refl ∙ P.is,
      )

  -- ---- the order
  sets_order : (i j : ℕ) → i < j → j < length (faulty_sets n t) → Lower (faulty_set_at n t i) (faulty_set_at n t j)
  sets_order i j h g =
      let S = sized i (omega arith) in
      let U = sized j g in
      subst₂ Lower (sym (set_there i S.size S.rest S.few S.less S.is))
      (sym (set_there j U.size U.rest U.few U.less U.is))
      (by_size (net_pairs n) (pairs_ascend n) S.size U.size S.rest U.rest S.less U.less (omega (arith, S.is, U.is)))

  once : (i j : ℕ) → i < length (faulty_sets n t) → j < length (faulty_sets n t) → faulty_set_at n t i ≡ faulty_set_at n t j → i ≡ j
  once i j h g e = elim (dec_lt i j) [
    | yes y ↦ absurd (set_not_lower (faulty_set_at n t i) (subst (Lower (faulty_set_at n t i)) (sym e) (sets_order i j y g)))
    | no y ↦ elim (dec_lt j i) [
      | yes x ↦ absurd (set_not_lower (faulty_set_at n t j) (subst (Lower (faulty_set_at n t j)) e (sets_order j i x h)))
      | no x ↦ omega arith
    ]
  ]

  pub each_once : EachOnce n t
  each_once = record { sets = sets_are; whole = sets_whole; once = once; order = sets_order; count = sets_many }

-- "Number 0 is the empty set; with n = 6 and t = 2 there are 121."
pub empty_first : (n t : ℕ) → faulty_set_at n t 0 ≡ []
unfolding choices_below choices sets_of
empty_first n t = set_there n t 0 0 0 (omega arith) (omega arith) refl

pub six_bases : length (faulty_sets 6 2) ≡ 121
unfolding set_count choices_below choices
six_bases = sets_many 6 2

-- the empty set is one of a net's, so there is a last set
pub some_set : (n t : ℕ) → 1 ≤ length (faulty_sets n t)
some_set n t = omega (arith, ((each_once n t).whole [] (record { few = omega arith; of_net = tt; ascends = tt })).1)

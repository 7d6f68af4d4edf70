-- The pairs of a net: each of them is one of it, none is left out, and they ascend.
use Rattle.std.specs.Prelude.{ℕ, zero, suc, ◌+◌, ◌<◌, ◌≤◌, ◌≡◌, refl, List, [], ◌∷◌, ◌++◌}
use Rattle.std.proofs.Common.{sym, ap₂, inl, inr, arith}
use Rattle.std.proofs.Math.Decide.{dec_lt}
use Rattle.link_sets.specs.declared.LinkPair.{LinkPair}
use Rattle.link_sets.specs.Pairs.{pairs_of_base, pairs_among, net_pairs}
use Rattle.link_sets.specs.Statement.{OfNet, Precedes, Each, Ascending}
use Rattle.link_sets.proofs.Theorem.Members.{Among, each_as, each_append, among_front, among_back}

-- ---- the order of pairs
pub not_itself : (p : LinkPair) → Precedes p p → ⊥
not_itself p (inl h) = omega arith
not_itself p (inr h) = omega arith

pub not_both : (p q : LinkPair) → Precedes p q → Precedes q p → ⊥
not_both p q (inl h) (inl g) = omega arith
not_both p q (inl h) (inr g) = omega arith
not_both p q (inr h) (inl g) = omega arith
not_both p q (inr h) (inr g) = omega arith

ascends_append : (l k : List LinkPair) → Ascending l → Ascending k → Each (λ p. Each (Precedes p) k) l → Ascending (l ++ k)
ascends_append [] k a b c = b
ascends_append (p ∷ l) k a b c = (each_append (Precedes p) l k a.0 c.0, ascends_append l k a.1 b c.1)

-- ---- one base with so many, from b on
record With (a b k : ℕ) (p : LinkPair) : Type 0 where
  base : p.lower ≡ a
  from : b ≤ p.higher
  below : p.higher < b + k

base_each : (a b k : ℕ) → Each (With a b k) (pairs_of_base a b k)
unfolding pairs_of_base
base_each a b zero = tt
base_each a b (suc k) = (
  record { base = refl; from = omega arith; below = omega arith },
  each_as (With a (suc b) k) (With a b (suc k)) wider (pairs_of_base a (suc b) k) (base_each a (suc b) k),
)
  where
    wider : (p : LinkPair) → With a (suc b) k p → With a b (suc k) p
    wider p h = record { base = h.base; from = omega arith; below = omega arith }

base_ascends : (a b k : ℕ) → Ascending (pairs_of_base a b k)
unfolding pairs_of_base
base_ascends a b zero = tt
base_ascends a b (suc k) = (
  each_as (With a (suc b) k) (Precedes (record { lower = a; higher = b })) (λ p h. inr (sym h.base, h.from))
      (pairs_of_base a (suc b) k) (base_each a (suc b) k),
  base_ascends a (suc b) k,
)

base_whole : (a b k : ℕ) (p : LinkPair) → With a b k p → Among p (pairs_of_base a b k)
unfolding pairs_of_base
base_whole a b zero p h = absurd (omega arith)
base_whole a b (suc k) p h = elim (dec_lt b p.higher) [
  | yes y ↦ inr (base_whole a (suc b) k p (record { base = h.base; from = y; below = omega arith }))
  | no y ↦ inl (ap₂ (λ (x y : ℕ). record { lower = x; higher = y }) (sym h.base) (omega arith))
]

-- ---- so many bases, from a on
record Between (a k : ℕ) (p : LinkPair) : Type 0 where
  from : a ≤ p.lower
  apart : p.lower < p.higher
  below : p.higher < a + k

among_each : (a k : ℕ) → Each (Between a k) (pairs_among a k)
unfolding pairs_among
among_each a zero = tt
among_each a (suc k) = each_append (Between a (suc k)) (pairs_of_base a (suc a) k) (pairs_among (suc a) k)
    (each_as (With a (suc a) k) (Between a (suc k)) lowest (pairs_of_base a (suc a) k) (base_each a (suc a) k))
    (each_as (Between (suc a) k) (Between a (suc k)) higher (pairs_among (suc a) k) (among_each (suc a) k))
  where
    lowest : (p : LinkPair) → With a (suc a) k p → Between a (suc k) p
    lowest p h = record { from = omega arith; apart = omega arith; below = omega arith }

    higher : (p : LinkPair) → Between (suc a) k p → Between a (suc k) p
    higher p h = record { from = omega arith; apart = h.apart; below = omega arith }

among_ascends : (a k : ℕ) → Ascending (pairs_among a k)
unfolding pairs_among
among_ascends a zero = tt
among_ascends a (suc k) = ascends_append (pairs_of_base a (suc a) k) (pairs_among (suc a) k)
    (base_ascends a (suc a) k) (among_ascends (suc a) k)
    (each_as (With a (suc a) k) (λ p. Each (Precedes p) (pairs_among (suc a) k)) before (pairs_of_base a (suc a) k) (base_each a (suc a) k))
  where
    before : (p : LinkPair) → With a (suc a) k p → Each (Precedes p) (pairs_among (suc a) k)
    before p h = each_as (Between (suc a) k) (Precedes p) (λ q g. inl (omega arith)) (pairs_among (suc a) k) (among_each (suc a) k)

among_whole : (a k : ℕ) (p : LinkPair) → Between a k p → Among p (pairs_among a k)
unfolding pairs_among
among_whole a zero p h = absurd (omega arith)
among_whole a (suc k) p h = elim (dec_lt a p.lower) [
  | yes y ↦ among_back p (pairs_of_base a (suc a) k) (pairs_among (suc a) k)
      (among_whole (suc a) k p (record { from = y; apart = h.apart; below = omega arith }))
  | no y ↦ among_front p (pairs_of_base a (suc a) k) (pairs_among (suc a) k)
      (base_whole a (suc a) k p (record { base = omega arith; from = omega arith; below = omega arith }))
]

-- ---- the net
pub pairs_of_net : (n : ℕ) → Each (OfNet n) (net_pairs n)
unfolding net_pairs
pairs_of_net n =
    each_as (Between 1 n) (OfNet n) (λ p h. record { numbered = h.from; apart = h.apart; within = omega arith })
    (pairs_among 1 n) (among_each 1 n)

pub pairs_ascend : (n : ℕ) → Ascending (net_pairs n)
unfolding net_pairs
pairs_ascend n = among_ascends 1 n

pub pairs_whole : (n : ℕ) (p : LinkPair) → OfNet n p → Among p (net_pairs n)
unfolding net_pairs
pairs_whole n p h = among_whole 1 n p (record { from = h.numbered; apart = h.apart; below = omega arith })

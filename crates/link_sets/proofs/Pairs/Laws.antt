-- The pairs of a net: how many they are, and which stands at a place.
use Rattle.std.specs.Prelude.{ℕ, zero, suc, ◌+◌, ◌*◌, ◌-◌, ◌<◌, ◌≤◌, ◌≡◌, refl, List, length, get_or}
use Rattle.std.proofs.Common.{sym, ap, ◌∙◌, add-one, arith, length-append}
use Rattle.std.proofs.Math.Nat.{div-eq_of_eq-mul_right}
use Rattle.std.proofs.Math.ListN.{get_or-append}
use Rattle.lists.specs.Lists.Laws.{get_d_behind}
use Rattle.link_sets.specs.declared.LinkPair.{LinkPair}
use Rattle.link_sets.specs.Pairs.{pairs_of_base, pairs_among, net_pairs}
use Rattle.link_sets.specs.Count.{pair_count}

-- ---- how many
base_counted : (a b k : ℕ) → length (pairs_of_base a b k) ≡ k
unfolding pairs_of_base
base_counted a b zero = refl
base_counted a b (suc k) = ap suc (base_counted a (suc b) k)

among_counted : (a k : ℕ) → 2 * length (pairs_among a k) + k ≡ k * k
unfolding pairs_among
among_counted a zero = refl
among_counted a (suc k) =
    omega (arith, length-append (pairs_of_base a (suc a) k) (pairs_among (suc a) k), base_counted a (suc a) k, among_counted (suc a) k)

pub pairs_counted : (n : ℕ) → length (net_pairs n) ≡ pair_count n
unfolding net_pairs
pairs_counted n = sym (div-eq_of_eq-mul_right (omega arith) (go n (among_counted 1 n)))
  where
    go : (k : ℕ) → 2 * length (pairs_among 1 n) + k ≡ k * k → k * (k - 1) ≡ 2 * length (pairs_among 1 n)
    go zero e = omega arith
    go (suc k) e = let one : suc k - 1 ≡ k = omega arith in rw one (omega arith)

-- ---- which stands at a place
no_pairs : (a : ℕ) → length (pairs_among a 0) ≡ 0
unfolding pairs_among
no_pairs a = refl

row_counted : (a k : ℕ) → length (pairs_among a (suc k)) ≡ k + length (pairs_among (suc a) k)
unfolding pairs_among
row_counted a k = length-append (pairs_of_base a (suc a) k) (pairs_among (suc a) k)
    ∙ ap (λ (c : ℕ). c + length (pairs_among (suc a) k)) (base_counted a (suc a) k)

base_pair : (a b k j : ℕ) (d : LinkPair) → j < k → get_or (pairs_of_base a b k) j d ≡ record { lower = a; higher = b + j }
unfolding pairs_of_base
base_pair a b zero j d h = absurd (omega arith)
base_pair a b (suc k) zero d h = let e : b ≡ b + 0 = omega arith in ap (λ (y : ℕ). record { lower = a; higher = y }) e
base_pair a b (suc k) (suc j) d h =
    let e : suc b + j ≡ b + suc j = omega arith in
    base_pair a (suc b) k j d (omega arith) ∙ ap (λ (y : ℕ). record { lower = a; higher = y }) e

-- among the pairs of the lowest base, or behind them
pub pair_here : (a k j : ℕ) (d : LinkPair) → j < k → get_or (pairs_among a (suc k)) j d ≡ record { lower = a; higher = a + 1 + j }
unfolding pairs_among
pair_here a k j d h =
    let e : suc a + j ≡ a + 1 + j = omega arith in
    get_or-append (pairs_of_base a (suc a) k) (pairs_among (suc a) k) d j (omega (arith, base_counted a (suc a) k))
    ∙ base_pair a (suc a) k j d h ∙ ap (λ (y : ℕ). record { lower = a; higher = y }) e

pair_further : (a k j : ℕ) (d : LinkPair) → k ≤ j → get_or (pairs_among a (suc k)) j d ≡ get_or (pairs_among (suc a) k) (j - k) d
unfolding pairs_among
pair_further a k j d h =
    let e = base_counted a (suc a) k in
    get_d_behind (pairs_of_base a (suc a) k) (pairs_among (suc a) k) j d (omega (arith, e))
    ∙ ap (λ (c : ℕ). get_or (pairs_among (suc a) k) (j - c) d) e

-- where a place lies behind the lowest base's pairs, there is a base above it, and the place is among the pairs of those above
module _ (a k j : ℕ) (h : k ≤ j) (g : j < length (pairs_among a (suc k))) where
  pub some_above : 1 ≤ k
  some_above = go k h g
    where
      go : (b : ℕ) → b ≤ j → j < length (pairs_among a (suc b)) → 1 ≤ b
      go zero p q = absurd (omega (arith, row_counted a 0, no_pairs (suc a)))
      go (suc b) p q = omega arith

  next_base : pairs_among (suc a) k ≡ pairs_among (a + 1) (suc (k - 1))
  next_base =
      let e : k ≡ suc (k - 1) = omega (arith, some_above) in
      rw (add-one a) (ap (pairs_among (suc a)) e)

  pub place_further : j - k < length (pairs_among (a + 1) (suc (k - 1)))
  place_further = omega (arith, row_counted a k, ap length next_base)

  pub pair_above : (d : LinkPair) → get_or (pairs_among a (suc k)) j d ≡ get_or (pairs_among (a + 1) (suc (k - 1))) (j - k) d
  pair_above d = pair_further a k j d h ∙ ap (λ (l : List LinkPair). get_or l (j - k) d) next_base

pub from_one : (n : ℕ) → 1 ≤ n → net_pairs n ≡ pairs_among 1 (suc (n - 1))
unfolding net_pairs
from_one n h = let e : n ≡ suc (n - 1) = omega arith in ap (pairs_among 1) e

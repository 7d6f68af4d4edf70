-- What is true of the sets, for every n and every t (document 02, request 1): "Each set must come up just one time and none be left out,
-- shown for all sizes together."
use Rattle.std.specs.Prelude.{ℕ, ◌≤◌, ◌<◌, ◌≡◌, ◌⊎◌, List, [], ◌∷◌, length}
use Rattle.link_sets.specs.declared.LinkPair.{LinkPair}
use Rattle.link_sets.specs.Sets.{faulty_sets, faulty_set_at}
use Rattle.link_sets.specs.Count.{set_count}

-- ---- a set of links
-- a link of a net of n bases, the lower base first
pub record OfNet (n : ℕ) (p : LinkPair) : Type 0 where
  pub numbered : 1 ≤ p.lower
  pub apart : p.lower < p.higher
  pub within : p.higher ≤ n

-- "pairs go by first base, then second"
abbrev pub Precedes : LinkPair → LinkPair → Type 0
Precedes p q = (p.lower < q.lower) ⊎ ((p.lower ≡ q.lower) × (p.higher < q.higher))

-- what holds of each of a list
abbrev pub Each : {A : Type 0} → (A → Type 0) → List A → Type 0
Each P [] = Unit {0}
Each P (x ∷ l) = P x × Each P l

-- each pair precedes all that follow it, so they differ
abbrev pub Ascending : List LinkPair → Type 0
Ascending [] = Unit {0}
Ascending (p ∷ s) = Each (Precedes p) s × Ascending s

-- a set of at most t links of a net of n bases: written in the order of its pairs, it is one list
pub record LinkSet (n t : ℕ) (s : List LinkPair) : Type 0 where
  pub few : length s ≤ t
  pub of_net : Each (OfNet n) s
  pub ascends : Ascending s

-- ---- the order of the sets
-- at the first place where they differ, the first has the lower pair
abbrev pub LowerPair : List LinkPair → List LinkPair → Type 0
LowerPair [] u = ⊥
LowerPair (p ∷ s) [] = ⊥
LowerPair (p ∷ s) (q ∷ u) = Precedes p q ⊎ ((p ≡ q) × LowerPair s u)

-- the smaller set, or sets of one size, and then the lower pair
abbrev pub Lower : List LinkPair → List LinkPair → Type 0
Lower s u = (length s < length u) ⊎ ((length s ≡ length u) × LowerPair s u)

-- ---- the statement
pub record EachOnce (n t : ℕ) : Type 0 where
  -- what a number gives is such a set
  pub sets : (i : ℕ) → i < length (faulty_sets n t) → LinkSet n t (faulty_set_at n t i)
  -- "none be left out"
  pub whole : (s : List LinkPair) → LinkSet n t s → (i : ℕ) × (i < length (faulty_sets n t)) × (faulty_set_at n t i ≡ s)
  -- "just one time"
  pub once : (i j : ℕ) → i < length (faulty_sets n t) → j < length (faulty_sets n t) → faulty_set_at n t i ≡ faulty_set_at n t j → i ≡ j
  -- "Sets go by size, then by their first differing pair"
  pub order : (i j : ℕ) → i < j → j < length (faulty_sets n t) → Lower (faulty_set_at n t i) (faulty_set_at n t j)
  -- how many there are, by a formula; "with n = 6 and t = 2 there are 121"
  pub count : length (faulty_sets n t) ≡ set_count n t

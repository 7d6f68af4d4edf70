-- Every set of at most t links of a net, in order (document 02, request 1): "Sets go by size, then by their first differing pair", "each
-- set given by its number".
use Rattle.std.specs.Prelude.{ℕ, zero, suc, List, [], ◌∷◌, ◌++◌, map, get_or}
use Rattle.link_sets.specs.declared.LinkPair.{LinkPair}
use Rattle.link_sets.specs.Pairs.{net_pairs}

-- the sets of k of a list: those with its first in front, then those without it
unfoldable pub sets_of : {A : Type 0} → ℕ → List A → List (List A)
sets_of zero l = [] ∷ []
sets_of (suc k) [] = []
sets_of (suc k) (p ∷ l) = map (p ∷◌) (sets_of k l) ++ sets_of (suc k) l

-- those of at most t: of none, then of one, and so on to t
unfoldable pub sets_up_to : {A : Type 0} → ℕ → List A → List (List A)
sets_up_to zero l = sets_of zero l
sets_up_to (suc t) l = sets_up_to t l ++ sets_of (suc t) l

-- "every set of at most t links"
unfoldable pub faulty_sets : ℕ → ℕ → List (List LinkPair)
faulty_sets n t = sets_up_to t (net_pairs n)

-- "each set given by its number. [..] Number 0 is the empty set": the numbers count from 0
unfoldable pub faulty_set_at : ℕ → ℕ → ℕ → List LinkPair
faulty_set_at n t number = get_or (faulty_sets n t) number []

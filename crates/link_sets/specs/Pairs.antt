-- The links of a net, each by the pair of its bases, in order (document 02, request 1: "pairs go by first base, then second").
use Rattle.std.specs.Prelude.{ℕ, zero, suc, List, [], ◌∷◌, ◌++◌}
use Rattle.link_sets.specs.declared.LinkPair.{LinkPair}

-- base a with so many bases, from b on
unfoldable pub pairs_of_base : ℕ → ℕ → ℕ → List LinkPair
pairs_of_base a b zero = []
pairs_of_base a b (suc k) = record { lower = a; higher = b } ∷ pairs_of_base a (suc b) k

-- so many bases, from a on: the pairs of a, then those of the bases above it
unfoldable pub pairs_among : ℕ → ℕ → List LinkPair
pairs_among a zero = []
pairs_among a (suc k) = pairs_of_base a (suc a) k ++ pairs_among (suc a) k

-- the pairs of the bases 1 to n
unfoldable pub net_pairs : ℕ → List LinkPair
net_pairs n = pairs_among 1 n

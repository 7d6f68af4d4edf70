-- The search for a set: what is chosen so far, and what is still to be chosen from the pairs that are left.
use Rattle.std.specs.Prelude.{ℕ, ◌+◌, ◌≤◌, ◌<◌, ◌≡◌, List, [], ◌++◌, length, get_or, take, drop, set}
use Rattle.link_sets.specs.declared.LinkPair.{LinkPair}
use Rattle.link_sets.specs.Pairs.{net_pairs}
use Rattle.link_sets.specs.Sets.{sets_of}
use Rattle.faulty_sets.specs.declared.search.Chosen.{Chosen}
use Rattle.faulty_sets.specs.declared.search.Search.{Search}
use Rattle.faulty_sets.specs.Small.{small_faulty}
pub mod Laws
pub mod Sizes

unfoldable pub chosen_pairs : Chosen → List LinkPair
chosen_pairs c = take c.count c.pairs

unfoldable pub with_pair : Chosen → LinkPair → Chosen
with_pair c p = record { count = c.count + 1; pairs = set c.pairs c.count p }

-- the sets of k of the net's pairs from a place on
abbrev pub sets_from : ℕ → ℕ → ℕ → List (List LinkPair)
sets_from n place k = sets_of k (drop place (net_pairs n))

-- what the search is to find
unfoldable pub sought_by : ℕ → Search → List LinkPair
sought_by n s = chosen_pairs s.chosen ++ get_or (sets_from n s.place s.wanted) s.number []

-- there is such a set, and room for it
pub record Searching (n : ℕ) (s : Search) : Type 0 where
  pub there : s.number < length (sets_from n s.place s.wanted)
  pub room : s.chosen.count + s.wanted ≤ small_faulty
  pub sized : length s.chosen.pairs ≡ small_faulty

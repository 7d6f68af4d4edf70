-- `faulty_sets::search::found` meets its contract. Invariant: what the search seeks is the set of that number; each turn decides a pair.
use Prim.Native.Nat.{◌-◌}
use mathlib.Core.Path.{◌≡◌}
use mathlib.Core.List.{[]}
use lib.ListN.{get_or}
use Rattle.link_sets.specs.Pairs.{net_pairs}
use Rattle.link_sets.specs.Sets.{sets_of}
use Rattle.link_sets.specs.Count.{pair_count}
use Rattle.faulty_sets.specs.Search.{sought_by, Searching}
use Rattle.faulty_sets.proofs.search.found.Given as goal

abbrev pub invariant-loop-search : goal.invariant-loop-search
invariant-loop-search l = (sought_by l.n l.search ≡ get_or (sets_of l.size (net_pairs l.n)) l.number []) × Searching l.n l.search

abbrev pub decreases-loop-search : goal.decreases-loop-search
decreases-loop-search l = pair_count l.n - l.search.place

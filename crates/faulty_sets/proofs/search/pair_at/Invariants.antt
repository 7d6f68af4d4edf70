-- `faulty_sets::search::pair_at` meets its contract. Invariant: the pair is the one so many places on among the pairs of the lower base and
-- of those above it.
use Prim.Native.Nat.{suc, ◌+◌, ◌<◌}
use mathlib.Core.Path.{◌≡◌}
use lib.ListN.{length, get_or}
use Rattle.link_sets.specs.Pairs.{pairs_among, net_pairs}
use Rattle.faulty_sets.specs.Answers.{no_link_pair}
use Rattle.faulty_sets.proofs.search.pair_at.Given as goal

abbrev pub invariant-loop-above : goal.invariant-loop-above
invariant-loop-above l =
    (l.lower + l.above ≡ l.n) × (l.rest < length (pairs_among l.lower (suc l.above)))
    × (get_or (net_pairs l.n) l.place no_link_pair ≡ get_or (pairs_among l.lower (suc l.above)) l.rest no_link_pair)

abbrev pub decreases-loop-above : goal.decreases-loop-above
decreases-loop-above l = l.above

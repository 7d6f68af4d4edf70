-- The faulty links that the program's net names: which list of pairs of document 01 ("The net over a whole history") they stand for, and
-- what `faulty a b` ("The replay program") does to them.
use Rattle.std.specs.Prelude.{ℕ, ◌+◌, List, map, ltb, take, set, replicate}
use Rattle.limits.specs.Limits.{most_bases, most_faulty}
use Rattle.lists.specs.Choice.{choose}
use Rattle.protocol.specs.Net as Nets
use Rattle.faulty_links.specs.declared.FaultyLink.{FaultyLink}
use Rattle.faulty_links.specs.declared.Faulty.{Faulty}
pub mod Pairs

abbrev pub faulty_room : ℕ
faulty_room = most_faulty most_bases

unfoldable pub pair_of : FaultyLink → Nets.Pair
pair_of p = record { one = p.one; other = p.other }

unfoldable pub pairs_of : Faulty → List Nets.Pair
pairs_of f = map pair_of (take f.count f.pairs)

-- a place that is not used
abbrev pub no_pair : FaultyLink
no_pair = record { one = 0; other = 0 }

abbrev pub no_faulty : Faulty
no_faulty = record { count = 0; pairs = replicate faulty_room no_pair }

-- `faulty a b`
unfoldable pub marked_faulty : Faulty → ℕ → ℕ → Faulty
marked_faulty f a b =
    choose (ltb f.count faulty_room)
    (record { count = f.count + 1; pairs = set f.pairs f.count (record { one = a; other = b }) })
    f

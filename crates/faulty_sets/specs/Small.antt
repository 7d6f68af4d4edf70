-- The sizes of a small net ("for up to 6 bases", document 02, request 1), as large as they can be.
use Rattle.std.specs.Prelude.{ℕ}
use Rattle.limits.specs.Limits.{small_bases, most_faulty}
use Rattle.link_sets.specs.Count.{pair_count}
pub mod Laws

-- the links of a set
abbrev pub small_faulty : ℕ
small_faulty = most_faulty small_bases

-- the links of the net
abbrev pub small_pairs : ℕ
small_pairs = pair_count small_bases

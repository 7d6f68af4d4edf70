-- What is held of one link (document 01, "What a base holds").
use Rattle.std.specs.Prelude.{ℕ, ◌+◌, Bool, not, List, [], eqb, leb, take}
use Rattle.lists.specs.Choice.{and, or}
use Rattle.lists.specs.Lists.{member, same_list}
use Rattle.counting.specs.Sums.{bit}
use Rattle.protocol.specs.declared.Link.{Link}

-- the link that is read past the end of an array
abbrev pub no_link : Link
no_link = record { announce = 0; verifies = []; list = []; verify_count = 0; held = 0 }

-- "the one Announce identifier accepted there, or zero for none"
unfoldable pub announces : Link → Bool
announces l = not (eqb l.announce 0)

-- "the Verify identifiers accepted there"
unfoldable pub verifies_of : Link → List ℕ
verifies_of l = take l.verify_count l.verifies

unfoldable pub holds_verify : Link → ℕ → Bool
holds_verify l g = member g (verifies_of l)

-- "Announce and Verify together are at most n + 1"
unfoldable pub used : Link → ℕ
used l = l.verify_count + bit (announces l)

unfoldable pub full : ℕ → Link → Bool
full n l = leb (n + 1) (used l)

-- "the vector message held there: none, kind 3 or kind 4, with its list" of n identifiers
unfoldable pub holds_vector : ℕ → ℕ → Link → List ℕ → Bool
holds_vector n kind l v = and (eqb l.held kind) (same_list (take n l.list) v)

unfoldable pub holds_correct : ℕ → Link → List ℕ → Bool
holds_correct n l v = holds_vector n 3 l v

unfoldable pub holds_verify_final : ℕ → Link → List ℕ → Bool
holds_verify_final n l v = holds_vector n 4 l v

-- a vector message with the list v, of either kind: a link holds one at most
unfoldable pub holds_list : ℕ → Link → List ℕ → Bool
holds_list n l v = or (holds_correct n l v) (holds_verify_final n l v)

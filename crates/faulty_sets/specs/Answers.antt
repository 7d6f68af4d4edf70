-- What the calls on the sets of faulty links answer (document 02, request 1).
use Rattle.std.specs.Prelude.{ℕ, ◌-◌, List, [], ◌∷◌, eqb, ltb, length, get_or, take}
use Rattle.lists.specs.Choice.{choose, first}
use Rattle.limits.specs.Limits.{small_bases}
use Rattle.limits.specs.Refusals.{size_refusal}
use Rattle.link_sets.specs.declared.LinkPair.{LinkPair}
use Rattle.link_sets.specs.Sets.{faulty_sets, faulty_set_at}
use Rattle.faulty_sets.specs.declared.FaultyCount.{FaultyCount}
use Rattle.faulty_sets.specs.declared.FaultyCount.TheVariants as counted
use Rattle.faulty_sets.specs.declared.FaultySet.{FaultySet}
use Rattle.faulty_sets.specs.declared.FaultySet.TheVariants.{Links, Refused}
pub mod Laws

-- ---- the numbers, in checking order
-- 1 and 2, then "19 when the net has more than 6 bases"
unfoldable pub small_refusal : ℕ → ℕ → ℕ
small_refusal n t = first (size_refusal n t) (choose (ltb small_bases n) 19 0)

-- then "20 when the number is past the last set"
unfoldable pub set_refusal : ℕ → ℕ → ℕ → ℕ
set_refusal n t number = first (small_refusal n t) (choose (ltb (length (faulty_sets n t) - 1) number) 20 0)

-- ---- the answers
-- how many sets there are
unfoldable pub count_answer : ℕ → ℕ → FaultyCount
count_answer n t =
    let r = small_refusal n t in
    choose (eqb r 0) (counted.Sets (length (faulty_sets n t))) (counted.Refused r)

-- a place that is not in use
abbrev pub no_link_pair : LinkPair
no_link_pair = record { lower = 0; higher = 0 }

-- a set by value: how many links it has, and these
unfoldable pub links_answer : List LinkPair → FaultySet
links_answer s = Links (length s) (get_or s 0 no_link_pair) (get_or s 1 no_link_pair)

-- the links that an answer holds
unfoldable pub answered_links : FaultySet → List LinkPair
answered_links (Links count first second) = take count (first ∷ (second ∷ []))
answered_links (Refused r) = []

-- the set of a number
unfoldable pub set_answer : ℕ → ℕ → ℕ → FaultySet
set_answer n t number =
    let r = set_refusal n t number in
    choose (eqb r 0) (links_answer (faulty_set_at n t number)) (Refused r)

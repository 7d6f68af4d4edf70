-- What is counted from a base's record (document 01, "What a base holds" and "The steps"). Link k of a base stands at place k - 1.
use Rattle.std.specs.Prelude.{ℕ, zero, suc, ◌+◌, ◌-◌, min, Bool, not, List, [], ◌∷◌, take, get_or}
use Rattle.limits.specs.Limits.{most_links}
use Rattle.lists.specs.Choice.{choose, and, or}
use Rattle.lists.specs.Lists.{member, sum_over}
use Rattle.counting.specs.Sums.{bit, sum, pairs}
use Rattle.protocol.specs.declared.Link.{Link}
use Rattle.protocol.specs.declared.Base.{Base}
use Rattle.protocol.specs.Links.{no_link, announces, holds_verify, holds_correct, holds_list}
pub mod Memory

unfoldable pub link_at : Base → ℕ → Link
link_at b i = get_or b.links i no_link

-- a base has n - 1 links, and a record room for so many
unfoldable pub link_count : Base → ℕ
link_count b = min (b.n - 1) most_links

-- the number of links of which p holds
unfoldable pub links : Base → (Link → Bool) → ℕ
links b p = sum (link_count b) (λ i. bit (p (link_at b i)))

-- the identifiers announced at the places below k
unfoldable pub announced : ℕ → (ℕ → Link) → List ℕ
announced zero at = []
announced (suc k) at = choose (announces (at k)) ((at k).announce ∷ announced k at) (announced k at)

-- "Certified: the own identifier and every accepted Announce identifier."
unfoldable pub certified : Base → List ℕ
certified b = b.own ∷ announced (link_count b) (link_at b)

-- "The tally of an identifier is the number of links holding it as Verify, plus one if certified."
unfoldable pub tally : Base → ℕ → ℕ
tally b g = links b (λ l. holds_verify l g) + bit (member g (certified b))

-- the sum of the tallies of the certified identifiers
unfoldable pub tally_sum : Base → ℕ
tally_sum b = sum_over (certified b) (tally b)

-- "A pair of certified identifiers is suspect if the link that announced either lacks a Verify of the other."
unfoldable pub suspect_pair : Link → Link → Bool
suspect_pair k l = and (and (announces k) (announces l)) (or (not (holds_verify k l.announce)) (not (holds_verify l k.announce)))

-- "For a pair with the own identifier, only the other's link is looked at."
unfoldable pub suspect_own : ℕ → Link → Bool
suspect_own own l = and (announces l) (not (holds_verify l own))

unfoldable pub suspects : Base → ℕ
suspects b = pairs (link_count b) (λ i j. bit (suspect_pair (link_at b i) (link_at b j))) + links b (suspect_own b.own)

-- "The tally of a list is the number of links holding a vector message with it."
unfoldable pub list_tally : Base → List ℕ → ℕ
list_tally b v = links b (λ l. holds_list b.n l v)

-- the number of links that hold Correct-Final v
unfoldable pub correct_count : Base → List ℕ → ℕ
correct_count b v = links b (λ l. holds_correct b.n l v)

-- the final list of a base: "n identifiers"
unfoldable pub final_list : Base → List ℕ
final_list b = take b.n b.final_list

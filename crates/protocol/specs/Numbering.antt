-- "Each base numbers its links 1 to n − 1: link k of base b goes to base k if k < b, else
-- to base k + 1." (document 01, "The net and its words")
use Rattle.std.specs.Prelude.{ℕ, ◌+◌, ◌-◌, ltb}
use Rattle.lists.specs.Choice.{choose}

-- the base at the end of link k of base b
unfoldable pub base_at : ℕ → ℕ → ℕ
base_at b k = choose (ltb k b) k (k + 1)

-- the link of base b that goes to base a
unfoldable pub link_to : ℕ → ℕ → ℕ
link_to b a = choose (ltb a b) a (a - 1)

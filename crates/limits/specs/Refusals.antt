-- Numbers 1 to 3 of document 01's "Turning calls down", in checking order; 0 stands for none.
use Rattle.std.specs.Prelude.{ℕ, ◌≤◌, eqb, ltb}
use Rattle.lists.specs.Choice.{choose, or, first}
use Rattle.limits.specs.Limits.{fewest_bases, most_bases, most_faulty}
pub mod Laws

-- 1. n is not 2 to 16.
unfoldable pub net_refusal : ℕ → ℕ
net_refusal n = choose (or (ltb n fewest_bases) (ltb most_bases n)) 1 0

-- 1, then 2. t is above its limit.
unfoldable pub size_refusal : ℕ → ℕ → ℕ
size_refusal n t =
    first (net_refusal n)
    (choose (ltb (most_faulty n) t) 2
    0)

-- 3. The own identifier is zero.
unfoldable pub own_refusal : ℕ → ℕ
own_refusal own = choose (eqb own 0) 3 0

-- a number of bases that a net can have
pub record NetSize (n : ℕ) : Type 0 where
  pub least : fewest_bases ≤ n
  pub most : n ≤ most_bases

-- Sums over a list's elements.
use Rattle.std.specs.Prelude.{ℕ, ◌+◌, ◌≡◌, refl, List, [], ◌∷◌, ◌++◌, length}
use Rattle.std.proofs.Common.{arith}
use Rattle.lists.specs.Lists.{sum_over}

pub sum_over_append : {A : Type 0} (a b : List A) (f : A → ℕ) → sum_over (a ++ b) f ≡ sum_over a f + sum_over b f
unfolding sum_over
sum_over_append [] b f = omega arith
sum_over_append (x ∷ a) b f = omega (arith, sum_over_append a b f)

pub sum_over_ones : {A : Type 0} (l : List A) → sum_over l (λ _. 1) ≡ length l
unfolding sum_over
sum_over_ones [] = refl
sum_over_ones (x ∷ l) = omega (arith, sum_over_ones l)

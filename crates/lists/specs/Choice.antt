-- Choices by a test. They stay shut until an answer unfolds them, so that a law finds its arguments in a goal.
use Rattle.std.specs.Prelude.{Bool, true, false, ℕ, eqb}
pub mod Laws

unfoldable pub choose : {A : Type 0} → Bool → A → A → A
choose true a b = a
choose false a b = b

unfoldable pub and : Bool → Bool → Bool
and true b = b
and false b = false

unfoldable pub or : Bool → Bool → Bool
or true b = true
or false b = b

-- Numbers by which a call is turned down, in checking order: the number of the first
-- check, or that of the next where the first gives none (0).
unfoldable pub first : ℕ → ℕ → ℕ
first a b = choose (eqb a 0) b a

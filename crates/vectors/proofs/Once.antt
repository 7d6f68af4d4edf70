-- A link holds one vector message at most, so it gives one to the tally of a list.
use Prim.Native.Nat.{ℕ, ◌+◌}
use mathlib.Core.Path.{◌≡◌, refl}
use mathlib.Core.Bool.{Bool, true, false}
use mathlib.Core.List.{List}
use native.Mathlib.Omega.{arith}
use borrow.Author.Tests.{eqb-true}
use Rattle.lists.specs.Choice.{or}
use Rattle.lists.specs.Choice.Laws.{and_true}
use Rattle.counting.specs.Sums.{bit}
use Rattle.protocol.specs.declared.Link.{Link}
use Rattle.protocol.specs.Links.{holds_vector, holds_correct, holds_verify_final, holds_list}

bit_either : (x y : Bool) → (x ≡ true → y ≡ true → ⊥) → bit x + bit y ≡ bit (or x y)
unfolding bit or
bit_either true true h = absurd (h refl refl)
bit_either true false h = refl
bit_either false true h = refl
bit_either false false h = refl

pub vector_once : (n : ℕ) (l : Link) (v : List ℕ) → bit (holds_vector n 3 l v) + bit (holds_vector n 4 l v) ≡ bit (holds_list n l v)
unfolding holds_list holds_correct holds_verify_final holds_vector
vector_once n l v =
    bit_either _ _ (λ e f. omega (arith, eqb-true l.held 3 (and_true _ _ e).0, eqb-true l.held 4 (and_true _ _ f).0))

-- Up to three frames join a base's broadcasts, taken by their lengths from the output that a call wrote.
use Rattle.std.specs.Prelude.{ℕ, ◌+◌, ◌≤◌, Bool, List, [], ◌∷◌, eqb, leb, length, take, drop}
use Rattle.limits.specs.Limits.{longest_frame}
use Rattle.lists.specs.Choice.{choose, and}
use Rattle.node.specs.declared.Node.{Node}
use Rattle.node.specs.Node.{joined}
pub mod Laws

-- a length of zero stands for no frame
unfoldable pub kept_of : Node → List ℕ → Node
kept_of v bytes = choose (eqb (length bytes) 0) v (joined v bytes)

-- frames of those lengths, one behind the other in an output
unfoldable pub kept_from : Node → List ℕ → ℕ → List ℕ → Node
kept_from v out from [] = v
kept_from v out from (x ∷ xs) = kept_from (kept_of v (take x (drop from out))) out (from + x) xs

-- each of them fits in its place, and all of them in an output of that room
abbrev pub AllFit : ℕ → ℕ → List ℕ → Type 0
AllFit room from [] = Unit {0}
AllFit room from (x ∷ xs) = (x ≤ longest_frame) × ((from + x ≤ room) × AllFit room (from + x) xs)

-- ---- three of them
unfoldable pub three_fit : ℕ → ℕ → ℕ → ℕ → Bool
three_fit room x y z = and (leb x longest_frame) (and (leb y longest_frame) (and (leb z longest_frame) (leb (x + y + z) room)))

-- lengths that do not fit stand for no frames
unfoldable pub kept_three : Node → List ℕ → ℕ → ℕ → ℕ → Node
kept_three v out x y z = choose (three_fit (length out) x y z) (kept_from v out 0 (x ∷ (y ∷ (z ∷ [])))) v

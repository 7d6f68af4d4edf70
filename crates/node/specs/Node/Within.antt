-- When a number is one of 1 to most.
use Rattle.std.specs.Prelude.{ℕ, ◌≤◌, ◌<◌, ◌≡◌, true, false, leb}
use Rattle.std.proofs.Common.{sym, le-leb, leb-true}
use Rattle.std.proofs.lemmas.Bool.{lt-leb}
use Rattle.lists.specs.Choice.Laws.{and_both, and_true, and_no, and_fails}
use Rattle.node.specs.Node.{in_range}

pub is_within : {x most : ℕ} → 1 ≤ x → x ≤ most → in_range x most ≡ true
unfolding in_range
is_within {x} {most} l h = and_both (le-leb 1 x l) (le-leb x most h)

pub below_one : {x : ℕ} (most : ℕ) → x < 1 → in_range x most ≡ false
unfolding in_range
below_one {x} most h = sym (and_fails (leb x most) (lt-leb 1 x h))

pub above_most : {x most : ℕ} → most < x → in_range x most ≡ false
unfolding in_range
above_most {x} {most} h = rw (lt-leb x most h) (and_no (leb 1 x))

pub within_range : (x most : ℕ) → in_range x most ≡ true → (1 ≤ x) × (x ≤ most)
unfolding in_range
within_range x most e = let p = and_true (leb 1 x) (leb x most) e in (leb-true 1 x p.0, leb-true x most p.1)

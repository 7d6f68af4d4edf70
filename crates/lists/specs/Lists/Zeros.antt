-- Places that are not in use hold zeros: a list of zeros is known by its length, and so is what stands behind a list in an array.
use Rattle.std.specs.Prelude.{ℕ, zero, suc, ◌-◌, ◌≡◌, refl, true, List, [], ◌∷◌, eqb, length, drop, replicate}
use Rattle.std.proofs.Common.{ap, ap₂, ◌∙◌, eqb-true, drop_at}
use Rattle.lists.specs.Choice.{and}
use Rattle.lists.specs.Choice.Laws.{and_true}
use Rattle.lists.specs.Lists.{zeros, pad_to}

pub zeros_replicate : (k : ℕ) → zeros (replicate k 0) ≡ true
unfolding zeros and
zeros_replicate zero = refl
zeros_replicate (suc k) = zeros_replicate k

pub zeros_are : (l : List ℕ) → zeros l ≡ true → l ≡ replicate (length l) 0
unfolding zeros
zeros_are [] e = refl
zeros_are (x ∷ l) e = let p = and_true (eqb x 0) (zeros l) e in ap₂ ◌∷◌ (eqb-true x 0 p.0) (zeros_are l p.1)

pub zeros_drop : (k : ℕ) (l : List ℕ) → zeros l ≡ true → zeros (drop k l) ≡ true
unfolding zeros
zeros_drop zero l e = e
zeros_drop (suc k) [] e = refl
zeros_drop (suc k) (x ∷ l) e = zeros_drop k l (and_true (eqb x 0) (zeros l) e).1

-- behind a list in an array
pub pad_behind : (places : ℕ) (l : List ℕ) (k : ℕ) → length l ≡ k → zeros (drop k (pad_to places l)) ≡ true
unfolding pad_to
pad_behind places l k e = ap zeros (drop_at l (replicate (places - length l) 0) k e) ∙ zeros_replicate (places - length l)

-- What a loop that counts, or that tests each, has after one turn more.
use Rattle.std.specs.Prelude.{ℕ, ◌+◌, ◌≡◌, Bool, true, false}
use Rattle.std.proofs.Common.{add-one, arith}
use Rattle.lists.specs.Choice.{and}
use Rattle.counting.specs.Sums.{bit, sum, all}
use Rattle.counting.specs.Sums.Laws.{sum_next}

pub sum_turn : (f : ℕ → ℕ) (i total term : ℕ) → total ≡ sum i f → term ≡ f i → total + term ≡ sum (i + 1) f
sum_turn f i total term p q = omega (arith, sum_next i f)

-- a loop within another goes on from what the outer one has
pub sum_grows : (f : ℕ → ℕ) (j start total term : ℕ) → total ≡ start + sum j f → term ≡ f j → total + term ≡ start + sum (j + 1) f
sum_grows f j start total term e t = omega (arith, sum_next j f)

-- the number of those of which a test holds
pub count_turn : (p : ℕ → Bool) (i total term : ℕ) → total ≡ sum i (λ j. bit (p j)) → term ≡ bit (p i)
    → total + term ≡ sum (i + 1) (λ j. bit (p j))
count_turn p i total term e f = sum_turn (λ j. bit (p j)) i total term e f

-- ---- a test of each, looked at from the last
pub all_broken : (p : ℕ → Bool) (i : ℕ) → p i ≡ false → all (i + 1) p ≡ false
unfolding all and
all_broken p i e = rw (add-one, e)

pub all_goes_on : (p : ℕ → Bool) (i : ℕ) → p i ≡ true → all (i + 1) p ≡ all i p
unfolding all and
all_goes_on p i e = rw (add-one, e)

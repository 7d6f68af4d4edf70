-- How many sets there are, by a formula.
use Rattle.std.specs.Prelude.{ℕ, zero, suc, ◌+◌, ◌*◌, ◌-◌, ◌/◌}

-- the pairs of n bases
abbrev pub pair_count : ℕ → ℕ
pair_count n = n * (n - 1) / 2

-- the sets of k of m pairs: m, m − 1, .. multiplied and by 1, 2, .. divided, k times; no division leaves a rest (`ways_more`)
unfoldable pub choices : ℕ → ℕ → ℕ
choices m zero = 1
choices m (suc k) = choices m k * (m - k) / suc k

-- those of fewer than k
unfoldable pub choices_below : ℕ → ℕ → ℕ
choices_below m zero = 0
choices_below m (suc k) = choices_below m k + choices m k

-- those of at most t links of a net of n bases
unfoldable pub set_count : ℕ → ℕ → ℕ
set_count n t = choices_below (pair_count n) (suc t)

-- In a small net all counts are small.
use Rattle.std.specs.Prelude.{ℕ, suc, ◌+◌, ◌*◌, ◌-◌, ◌^◌, ◌≤◌, ◌≡◌}
use Rattle.std.proofs.Common.{mul-le-mul, mul-le-mul_left, mul-le-mul_right, arith, pow_mono}
use Rattle.limits.specs.Limits.{small_bases}
use Rattle.link_sets.specs.Count.{pair_count, choices, choices_below}
use Rattle.link_sets.proofs.Count.Laws.{choices_most, below_most}
use Rattle.faulty_sets.specs.Small.{small_faulty, small_pairs}

pub products_few : (n : ℕ) → n ≤ small_bases → n * (n - 1) ≤ small_bases * (small_bases - 1)
products_few n h = mul-le-mul {m₂ = small_bases - 1} h (omega arith)

pub pairs_few : (n : ℕ) → n ≤ small_bases → pair_count n ≤ small_pairs
pairs_few n h = omega (arith, products_few n h)

choices_few : (m k : ℕ) → m ≤ small_pairs → choices m k ≤ 2 ^ small_pairs
choices_few m k h = omega (arith, choices_most m k, pow_mono h)

pub factor_few : (m k j : ℕ) {c : ℕ} → c ≡ choices m k → m ≤ small_pairs → c * (m - j) ≤ 2 ^ small_pairs * small_pairs
factor_few m k j e h = mul-le-mul {n₂ = 2 ^ small_pairs} {m₂ = small_pairs} (omega (arith, choices_few m k h)) (omega arith)

below_few : (m k : ℕ) → m ≤ small_pairs → choices_below m k ≤ k * 2 ^ small_pairs
below_few m k h = omega (arith, below_most m k, mul-le-mul_left k (pow_mono h))

pub sum_few : (m k : ℕ) {c d : ℕ} → c ≡ choices_below m k → d ≡ choices m k → m ≤ small_pairs → k ≤ small_faulty
    → c + d ≤ suc small_faulty * 2 ^ small_pairs
sum_few m k e f h g = omega (arith, below_few m k h, choices_few m k h, mul-le-mul_right (2 ^ small_pairs) g)

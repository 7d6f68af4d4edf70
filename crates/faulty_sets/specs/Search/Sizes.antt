-- The set of a number by its size: it stands behind the sets of fewer pairs.
use Rattle.std.specs.Prelude.{ℕ, suc, ◌+◌, ◌-◌, ◌≤◌, ◌<◌, ◌≡◌, [], length, get_or}
use Rattle.std.proofs.Common.{sym, ◌∙◌, arith}
use Rattle.std.proofs.Math.Path.{ap}
use Rattle.link_sets.specs.Pairs.{net_pairs}
use Rattle.link_sets.proofs.Pairs.Laws.{pairs_counted}
use Rattle.link_sets.specs.Sets.{sets_of, faulty_sets, faulty_set_at}
use Rattle.link_sets.specs.Count.{pair_count, choices, choices_below, set_count}
use Rattle.link_sets.proofs.Count.Laws.{sets_counted}
use Rattle.link_sets.proofs.Theorem.{sets_many, set_there}

module _ (n : ℕ) {m : ℕ} (e : m ≡ pair_count n) where
  same_pairs : length (net_pairs n) ≡ m
  same_pairs = pairs_counted n ∙ sym e

  pub number_counted : (t number : ℕ) → number < length (faulty_sets n t) → number < choices_below m (suc t)
  unfolding set_count
  number_counted t number h = omega (arith, sets_many n t, ap (λ (k : ℕ). choices_below k (suc t)) e)

  module _ (t number size rest : ℕ) (few : size ≤ t) (is : number ≡ choices_below m size + rest) (less : rest < choices m size) where
    pub rest_there : rest < length (sets_of size (net_pairs n))
    rest_there = omega (arith, sets_counted size (net_pairs n), ap (λ (k : ℕ). choices k size) same_pairs)

    pub rest_is : get_or (sets_of size (net_pairs n)) rest [] ≡ faulty_set_at n t number
    rest_is =
        let place : number ≡ choices_below (length (net_pairs n)) size + rest
        = omega (arith, is, ap (λ (k : ℕ). choices_below k size) same_pairs) in
        sym (set_there n t number size rest few (omega (arith, rest_there, sets_counted size (net_pairs n))) place)

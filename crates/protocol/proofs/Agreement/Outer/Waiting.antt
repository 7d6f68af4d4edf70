-- Nothing waits: every broadcast has been carried to every base at the other end of a good link, in both directions. `waiting` counts each
-- broadcast that has not, so that none is left where the count is zero.
use Rattle.std.specs.Prelude.{ℕ, suc, ◌<◌, ◌≡◌, ◌≢◌, Bool, List, length}
use Rattle.std.proofs.Math.Path.{refl}
use Rattle.std.proofs.Common.{ap, ne_eqb}
use Rattle.std.proofs.Math.Bool.{true, false, not}
use native.Mathlib.Omega.{arith}
use Rattle.lists.specs.Choice.Laws.{choose_ind, or_neither, clash}
use Rattle.counting.specs.Sums.{bit, sum}
use Rattle.counting.specs.Sums.Laws.{sum_term}
use Rattle.protocol.specs.Net.{Net, Pair, good, waiting_from, waiting}

module _ (n : ℕ) (faulty : List Pair) (W : Net) where
  -- what waits from a to b on a good link is counted whole
  waits_counted : (a b : ℕ) → a ≢ b → good faulty a b ≡ true
      → waiting_from faulty W a b ≡ sum (length (W.log a)) (λ i. bit (not (W.carried a b (suc i))))
  unfolding waiting_from
  waits_counted a b ne e = choose_ind (λ k. k ≡ sum (length (W.log a)) (λ i. bit (not (W.carried a b (suc i))))) _
      (λ q. clash q (or_neither (ne_eqb a b ne) (ap not e))) (λ q. refl)

  pub nothing_waits : waiting n faulty W ≡ 0 → (x y k : ℕ) → x < n → y < n → x ≢ y → good faulty (suc x) (suc y) ≡ true
      → k < length (W.log (suc x)) → W.carried (suc x) (suc y) (suc k) ≡ true
  unfolding waiting
  nothing_waits none x y k x_in y_in ne e l = carried (W.carried (suc x) (suc y) (suc k)) (omega (
    arith,
    none,
    sum_term n (λ a. sum n (λ b. waiting_from faulty W (suc a) (suc b))) x x_in,
    sum_term n (λ b. waiting_from faulty W (suc x) (suc b)) y y_in,
    waits_counted (suc x) (suc y) (λ q. ne (cc)) e,
    sum_term (length (W.log (suc x))) (λ i. bit (not (W.carried (suc x) (suc y) (suc i)))) k l,
  ))
    where
      carried : (t : Bool) → bit (not t) ≡ 0 → t ≡ true
      carried true h = refl
      carried false h = absurd (unfold bit in omega arith)

-- `sum_of_tallies::verified_of` meets its contract. Invariant: the sum is that of the identifiers from place j on.
use Prim.Native.Nat.{ℕ}
use mathlib.Core.Path.{◌≡◌, sym, ap, ◌∙◌}
use native.Mathlib.Omega.{arith}
use lib.ListN.{length, take, drop}
use Rattle.limits.specs.Limits.{most_bases}
use Rattle.sum_of_tallies.proofs.Swap.{sum_back, sum_end}
use Rattle.protocol.specs.Links.{holds_verify, verifies_of}
use Rattle.lists.specs.Lists.{sum_over}
use Rattle.counting.specs.Sums.{bit}
use Rattle.sum_of_tallies.proofs.verified_of.Goals as goal

pub loop-j-init : goal.loop-j-init
loop-j-init c = let a = c.args in (omega arith, sym (sum_end a.ids a.count (λ g. bit (holds_verify a.link g))))

pub overflow_add-sum : goal.overflow_add-sum
overflow_add-sum c = omega (arith, c.one-sum.ensures)

pub loop-j-preserved : goal.loop-j-preserved
unfolding holds_verify verifies_of
loop-j-preserved c = let o = c.one-sum.ensures in
    let a = c.args in let z : length a.ids ≡ most_bases = c.well_formed.1.0.1.0.1 in (
      omega (arith, o),
      sum_back a.ids a.count c.loop-j.j c.loop-j.sum c.one-sum.result (λ g. bit (holds_verify a.link g))
          (omega arith) (omega arith) (omega arith) c.loop-j.invariant.1 (o.0 ∙ ap bit c.holds.ensures),
    )

pub returns : goal.returns
returns c = let a = c.args in let e : c.loop-j.j ≡ 0 = omega arith in
    (c.loop-j.invariant.1 ∙ ap (λ (j : ℕ). sum_over (drop j (take a.count a.ids)) (λ g. bit (holds_verify a.link g))) e, omega arith)

-- `sum_of_tallies::verified_sum` meets its contract. Invariant: the sum is how many of the identifiers the links below place i hold.
use Prim.Native.Nat.{ℕ, ◌-◌}
use mathlib.Core.Path.{◌≡◌, ap, ◌∙◌}
use native.Mathlib.Omega.{arith}
use lib.ListN.{take}
use Rattle.counting.specs.Sums.Loops.{sum_turn}
use Rattle.protocol.specs.Record.{link_at, link_count}
use Rattle.protocol.specs.Links.{holds_verify}
use Rattle.lists.specs.Lists.{sum_over}
use Rattle.counting.specs.Sums.{bit}
use Rattle.counting.specs.Sums as Sums
use Rattle.sum_of_tallies.proofs.verified_sum.Goals as goal

pub loop-i-init : goal.loop-i-init
unfolding Sums.sum
loop-i-init c = (omega arith, (omega arith, omega arith))

pub verified_of-sum-requires : goal.verified_of-sum-requires
verified_of-sum-requires c = c.requires

pub overflow_add-sum : goal.overflow_add-sum
overflow_add-sum c = omega (arith, c.verified_of-sum.ensures, c.loop-i.invariant)

pub loop-i-preserved : goal.loop-i-preserved
unfolding link_at
loop-i-preserved c = let v = c.verified_of-sum.ensures in
    let a = c.args in (
      omega arith,
      (
        omega (arith, v, c.requires),
        sum_turn (λ k. sum_over (take a.count a.ids) (λ g. bit (holds_verify (link_at a.base k) g)))
            c.loop-i.i c.loop-i.sum c.verified_of-sum.result c.loop-i.invariant.1.1 v.0,
      ),
    )

pub returns : goal.returns
returns c = let k = c.links_in-k.ensures in let a = c.args in
    let all : c.loop-i.i ≡ link_count a.base = unfold link_count in omega (arith, k) in (
      c.loop-i.invariant.1.1 ∙ ap (λ (i : ℕ). Sums.sum i (λ c. sum_over (take a.count a.ids) (λ g. bit (holds_verify
          (link_at a.base c) g)))) all,
      omega (arith, k),
    )

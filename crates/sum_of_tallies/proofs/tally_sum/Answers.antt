-- `sum_of_tallies::tally_sum` meets its contract: the list that is handed on is that of the certified identifiers.
use Prim.Native.Nat.{ℕ, ◌+◌}
use mathlib.Core.List.{List}
use mathlib.Core.Path.{sym, ap, ap₂, ◌∙◌}
use native.Mathlib.Omega.{arith}
use Rattle.sum_of_tallies.proofs.Swap.{tally_by_links}
use Rattle.certified.specs.Listed.{listed, listed_count, listed_most}
use Rattle.protocol.specs.Record.{link_at, link_count, certified}
use Rattle.protocol.specs.Links.{holds_verify}
use Rattle.lists.specs.Lists.{sum_over}
use Rattle.counting.specs.Sums.{bit}
use Rattle.counting.specs.Sums as Sums
use Rattle.sum_of_tallies.proofs.tally_sum.Goals as goal

pub verified_sum-requires : goal.verified_sum-requires
verified_sum-requires c = listed_most c.args.base _ c.certified_ids-list.ensures

pub overflow_add-result : goal.overflow_add-result
overflow_add-result c = omega (arith, c.verified_sum.ensures.1, listed_most c.args.base _ c.certified_ids-list.ensures)

pub returns : goal.returns
returns c = let b = c.args.base in let e = c.certified_ids-list.ensures in
    let v = c.verified_sum.ensures in (
      ap₂ ◌+◌ (listed_count (certified b) _ e)
          (v.0 ∙ ap (λ (l : List ℕ). Sums.sum (link_count b) (λ i. sum_over l (λ g. bit (holds_verify (link_at b i) g))))
          (listed (certified b) _ e))
          ∙ sym (tally_by_links b),
      omega (arith, v.1, listed_most b _ e),
    )

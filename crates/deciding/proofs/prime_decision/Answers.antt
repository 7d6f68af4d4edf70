-- `deciding::prime_decision` meets its contract, by whether the check holds.
use Rattle.deciding.specs.Deciding.{prime_decision, stops_with}
use Rattle.deciding.specs.Deciding.Laws.{runs_kept}
use Rattle.lists.specs.Choice.Laws.{chosen_yes, chosen_no}
use mathlib.Core.Path.{sym, ap, ◌∙◌}
use Rattle.deciding.proofs.prime_decision.Goals as goal

pub returns-then-not-is_prime : goal.returns-then-not-is_prime
unfolding prime_decision
returns-then-not-is_prime c = chosen_no _ (sym c.is_prime.ensures ∙ c.if-not-is_prime.true)
    (c.runs_on.ensures ∙ runs_kept _ _ _ _ c.requires)

pub returns : goal.returns
unfolding prime_decision stops_with
returns c =
    let a = c.args in
    chosen_yes _ (sym c.is_prime.ensures ∙ c.if-not-is_prime.false)
    (ap (stops_with a.first a.base.sent 2) c.certified_sorted-list.ensures)

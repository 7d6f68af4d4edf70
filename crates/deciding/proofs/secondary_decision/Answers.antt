-- `deciding::secondary_decision` meets its contract, by whether the check holds.
use Rattle.deciding.specs.Deciding.{secondary_decision, stops_with}
use Rattle.deciding.specs.Deciding.Laws.{runs_kept}
use Rattle.lists.specs.Choice.Laws.{chosen_yes, chosen_no}
use mathlib.Core.Path.{refl, sym, ◌∙◌}
use Rattle.deciding.proofs.secondary_decision.Goals as goal

pub returns-then-not-is_secondary : goal.returns-then-not-is_secondary
unfolding secondary_decision
returns-then-not-is_secondary c = chosen_no _ (sym c.is_secondary.ensures ∙ c.if-not-is_secondary.true)
    (c.runs_on.ensures ∙ runs_kept _ _ _ _ c.requires)

pub returns : goal.returns
unfolding secondary_decision stops_with
returns c = chosen_yes _ (sym c.is_secondary.ensures ∙ c.if-not-is_secondary.false) refl

-- `settling::decided` meets its contract, by whether the message is accepted.
use Rattle.settling.specs.Settling.{decided_at}
use Rattle.deciding.specs.Deciding.{runs_on, decision_of}
use Rattle.protocol.specs.Steps.{with_state}
use Rattle.protocol.specs.declared.Base.{Base}
use Rattle.lists.specs.Choice.Laws.{chosen_yes, chosen_no}
use mathlib.Core.Path.{refl, ap, ◌∙◌}
use borrow.Author.Tests.{not-true, not-false}
use Rattle.settling.proofs.decided.Goals as goal

pub returns-then-not-accepted : goal.returns-then-not-accepted
unfolding decided_at runs_on with_state
returns-then-not-accepted c = chosen_no _ (not-true _ c.if-not-accepted.true) refl

pub returns : goal.returns
unfolding decided_at
returns c = let a = c.args in
    chosen_yes _ (not-false _ c.if-not-accepted.false)
    (c.decide.ensures ∙ ap (λ (b : Base). decision_of b a.kind a.ids) c.running_with.ensures)

-- `deciding::vector_decision` meets its contract.
use Rattle.deciding.specs.Deciding.{secondary_decision}
use Rattle.deciding.specs.Deciding.Laws.{vector_decision}
use Rattle.lists.specs.Choice.{choose}
use Prim.Native.Nat.{ℕ}
use mathlib.Core.Bool.{Bool}
use mathlib.Core.Path.{ap, ap₂, ◌∙◌}
use Rattle.deciding.proofs.vector_decision.Goals as goal

pub returns : goal.returns
unfolding vector_decision
returns c = let a = c.args in
    c.secondary_decision.ensures
    ∙ ap₂ (λ (first sent : ℕ). secondary_decision a.base first sent a.v)
    c.vote_kind.ensures c.sent_with.ensures
    ∙ ap (λ (t : Bool). secondary_decision a.base (choose t 4 0) (choose t 1 a.base.sent) a.v)
    c.votes_on-vote.ensures

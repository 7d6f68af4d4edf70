-- `change::refused` meets its contract.
use Rattle.protocol.specs.Steps.{refuses, with_state, outcome_with}
use Rattle.change.proofs.refused.Goals as goal

pub returns : goal.returns
unfolding refuses with_state outcome_with
returns c = record { outcome = c.only_state.ensures.0; base = c.only_state.ensures.1 }

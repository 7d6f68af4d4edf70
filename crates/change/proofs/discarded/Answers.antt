-- `change::discarded` meets its contract.
use Rattle.lists.specs.Lists.{sum_over}
use Rattle.protocol.specs.Airtime.{own_slots, relayed_slots}
use Rattle.protocol.specs.Steps.{discards, outcome_with, lengths}
use Rattle.change.proofs.discarded.Goals as goal

pub returns : goal.returns
unfolding discards outcome_with lengths own_slots relayed_slots sum_over
returns c = record { outcome = c.only_state.ensures.0; base = c.only_state.ensures.1 }

-- The ways in which a step can end, read off the steps once. A running base discards a message, or takes it in
-- and runs on, or takes it in and stops by the check that follows. An arrival at an idle base is one at the base
-- just started. Every theorem about the steps goes by these cases: what holds of each way holds of the step.
use Rattle.protocol.specs.declared.Base.{Base}
use Rattle.protocol.specs.Steps.{with_state}

-- ---- a start and an arrival
-- the base after its start
abbrev pub begun : Base → Base
begun b = with_state b 1

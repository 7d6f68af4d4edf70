-- `accepting::listed` meets its contract.
use Rattle.accepting.specs.Accepting.Laws.{when_discarded, when_accepted}
use Rattle.accepting.specs.Accepting.{on_vector_link, with_array}
use Rattle.accepting.proofs.listed.Goals as goal

pub returns-then-discarded : goal.returns-then-discarded
unfolding on_vector_link
returns-then-discarded c = when_discarded _ _ c.if-discarded.true

pub returns : goal.returns
unfolding on_vector_link with_array
returns c = when_accepted _ _ c.if-discarded.false

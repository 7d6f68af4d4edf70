-- `event_lines::happen` meets its contract: the line decides.
use mathlib.Core.Path.{refl, ap, subst}
use Rattle.node_calls.specs.declared.NodeAnswer.{NodeAnswer}
use Rattle.node_calls.specs.Calls.{node_answer}
use Rattle.stored_walk.specs.State.{HasBytes}
use Rattle.stored_walk.specs.Reaching.{reached_by}
use Rattle.event_lines.proofs.happen.Goals as goal

pub forge_bytes-requires : goal.forge_bytes-requires
forge_bytes-requires c = subst (HasBytes c.args.s.now)
    c.in-Forge.is c.requires

pub returns-in-Start : goal.returns-in-Start
unfolding reached_by node_answer
returns-in-Start c =
    rw c.in-Start.is
    (ap (λ (t : NodeAnswer). record { refusal = 0; node = t.node }) c.start_node-answer.ensures)

pub returns-in-Carry : goal.returns-in-Carry
unfolding reached_by
returns-in-Carry c = rw c.in-Carry.is c.carry.ensures

pub returns-in-Forge : goal.returns-in-Forge
unfolding reached_by
returns-in-Forge c = rw c.in-Forge.is c.forge_bytes.ensures

pub returns-in-Wrong : goal.returns-in-Wrong
unfolding reached_by
returns-in-Wrong c = rw c.in-Wrong.is refl

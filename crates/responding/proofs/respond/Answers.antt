-- `responding::respond` meets its contract.
use Rattle.responding.specs.Responding.{response_change}
use Rattle.protocol.specs.declared.Outcome.{Outcome}
use mathlib.Core.Path.{ap}
use Rattle.responding.proofs.respond.Goals as goal

pub returns : goal.returns
unfolding response_change
returns c = let w = c.say_response-outcome.ensures in let a = c.args in (
  ap (λ (o : Outcome). record {
    outcome = o;
    state = a.decision.state;
    sent = a.decision.sent;
    place = a.i;
    link = a.accepted.link;
    final_list = a.decision.final_list;
  }) w.0,
  w.1,
)

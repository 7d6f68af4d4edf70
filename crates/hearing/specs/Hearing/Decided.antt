-- A message at a running base as the code takes it apart, and as the agreement has it: what a decision makes of the base and says.
use Rattle.std.specs.Prelude.{ℕ, Bool, List, [], ◌∷◌, ◌++◌, eqb, take}
use Rattle.lists.specs.Choice.{choose}
use Rattle.frame.specs.Message.{Message, correct_final}
use Rattle.protocol.specs.declared.Base.{Base}
use Rattle.change.specs.Heard.{message_in}
use Rattle.deciding.specs.declared.Decision.{Decision}
pub mod Laws
pub mod Frames
pub mod Response

-- the base once it has decided
unfoldable pub decided_base : Base → Decision → Base
decided_base c d = record {
  n = c.n;
  t = c.t;
  state = d.state;
  sent = d.sent;
  own = c.own;
  final_list = d.final_list;
  links = c.links;
}

-- the message of the first kind, none for zero, of the identifiers that arrived; the Correct-Final of a base that stops
unfoldable pub first_said : ℕ → ℕ → List ℕ → List Message
first_said n first ids = choose (eqb first 0) [] (message_in n first ids ∷ [])

unfoldable pub last_said : ℕ → Bool → List ℕ → List Message
last_said n stops list = choose stops (correct_final (take n list) ∷ []) []

unfoldable pub said_by : ℕ → Decision → List ℕ → List Message
said_by n d ids = first_said n d.first ids ++ last_said n d.stops d.final_list

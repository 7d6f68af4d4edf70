-- A first message, behind the frames of a start.
use Rattle.std.specs.Prelude.{ℕ, ◌-◌, Bool, List, ◌++◌, length}
use Rattle.protocol.specs.declared.Outcome.{Outcome}
use Rattle.protocol.specs.declared.Outcome.TheVariants as ends
use Rattle.start_frames.specs.declared.StartSizes.{StartSizes}
use Rattle.start_frames.specs.Frames.{start_frames, start_sizes}
use Rattle.change.specs.declared.Change.{Change}
use Rattle.accepting.specs.declared.Accepted.{Accepted}
use Rattle.deciding.specs.declared.Decision.{Decision}
use Rattle.responding.specs.Responding.{response_frames, response_outcome}
pub mod Laws

-- "An idle base starts first": the frames of the start, and behind them those of the message, in the room that is left
unfoldable pub first_frames : ℕ → ℕ → Bool → Decision → List ℕ → ℕ → List ℕ
first_frames n own accepted d ids room = start_frames own room ++ response_frames n accepted d ids (room - length (start_frames own room))

-- the answer of the message, behind the two frames of the start: a first message broadcasts one frame at most, and relays it
unfoldable pub behind_start : StartSizes → Outcome → Outcome
behind_start s (ends.Accepted a b c own relayed) = ends.Accepted s.announce s.verify a s.slots relayed
behind_start s (ends.Discarded a b c own relayed) = ends.Discarded s.announce s.verify a s.slots relayed
behind_start s (ends.Refused r) = ends.Refused r

-- the answer, and what is to be set in the record
unfoldable pub first_change : ℕ → ℕ → ℕ → Accepted → Decision → List ℕ → ℕ → Change
first_change n own i a d ids room = record {
  outcome = behind_start (start_sizes room) (response_outcome n a.accepted d ids (room - length (start_frames own room)));
  state = d.state;
  sent = d.sent;
  place = i;
  link = a.link;
  final_list = d.final_list;
}

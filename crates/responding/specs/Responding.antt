-- What a base broadcasts at a message that it took, by what it decided, as bytes; and what is then to be set in its record.
use Rattle.std.specs.Prelude.{ℕ, Bool, List, [], ◌++◌, length}
use Rattle.lists.specs.Choice.{choose}
use Rattle.frame.specs.Slots.{size_of}
use Rattle.protocol.specs.declared.Outcome.{Outcome}
use Rattle.protocol.specs.declared.Outcome.TheVariants.{Discarded}
use Rattle.change.specs.declared.Change.{Change}
use Rattle.accepting.specs.declared.Accepted.{Accepted}
use Rattle.deciding.specs.declared.Decision.{Decision}
use Rattle.broadcasting.specs.Broadcasting.{frame_in, last_frame, accepted_with}

-- the frames that it broadcasts, and the answer with their sizes
unfoldable pub response_frames : ℕ → Bool → Decision → List ℕ → ℕ → List ℕ
response_frames n accepted d ids room =
    choose accepted (frame_in n d.first ids room ++ last_frame n d.first ids d.stops d.final_list room) []

unfoldable pub response_outcome : ℕ → Bool → Decision → List ℕ → ℕ → Outcome
response_outcome n accepted d ids room =
    choose accepted
    (accepted_with (size_of (length (frame_in n d.first ids room)))
    (size_of (length (last_frame n d.first ids d.stops d.final_list room))))
    (Discarded 0 0 0 0 0)

-- what is then to be set in its record
unfoldable pub response_change : ℕ → ℕ → Accepted → Decision → List ℕ → ℕ → Change
response_change n i a d ids room = record {
  outcome = response_outcome n a.accepted d ids room;
  state = d.state;
  sent = d.sent;
  place = i;
  link = a.link;
  final_list = d.final_list;
}

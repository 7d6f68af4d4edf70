-- What was read arrives: the numbers by which it is turned down, in checking order, and what it does.
use Rattle.std.specs.Prelude.{ℕ, ◌-◌, List}
use Rattle.lists.specs.Choice.{first}
use Rattle.protocol.specs.declared.Base.{Base}
use Rattle.protocol.specs.Sound.{record_refusal}
use Rattle.protocol.specs.Steps.{Done, link_refusal, output_refusal, unless, arrival_step}
use Rattle.messages.specs.Messages.{message_refusal}
use Rattle.change.specs.Heard.{message_in}
pub mod Decided
pub mod First
pub mod Laws
pub mod Arrival
pub mod Bursts
pub mod Valid

-- numbers 1 to 6: those of the record, the link and the output
unfoldable pub place_refusal : Base → ℕ → ℕ → ℕ
place_refusal b link room = first (record_refusal b) (first (link_refusal b.n link) (output_refusal room))

-- behind them the number that the reading gave, 0 where it gave a message, and those of a message that no reading gives
unfoldable pub hear_refusal : Base → ℕ → ℕ → ℕ → List ℕ → ℕ → ℕ
hear_refusal b link number kind ids room = first (place_refusal b link room) (first number (message_refusal b.n kind ids))

unfoldable pub message_arrival : Base → ℕ → ℕ → ℕ → List ℕ → ℕ → Done
message_arrival b link number kind ids room =
    unless (hear_refusal b link number kind ids room) b (arrival_step b (link - 1) (message_in b.n kind ids))

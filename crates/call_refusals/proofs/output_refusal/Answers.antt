-- `call_refusals::output_refusal` meets its contract, by the room.
use mathlib.Core.Path.{sym}
use Rattle.protocol.proofs.Steps.Refusals.{output_short, output_wide}
use Rattle.call_refusals.proofs.output_refusal.Goals as goal

pub returns-then-room-lt-OUTPUT_ROOM : goal.returns-then-room-lt-OUTPUT_ROOM
returns-then-room-lt-OUTPUT_ROOM c = sym (output_short _ c.if-room-lt-OUTPUT_ROOM.true)

pub returns : goal.returns
returns c = sym (output_wide _ c.if-room-lt-OUTPUT_ROOM.false)

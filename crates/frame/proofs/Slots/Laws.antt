-- How many slots a message's frame has, by its identifiers: 1 for one, and for a list of n "(n + 1) / 2 rounded up".
use Rattle.std.specs.Prelude.{◌≡◌, length}
use Rattle.std.proofs.Common.{arith}
use Rattle.limits.specs.Limits.{list_slots}
use Rattle.frame.specs.Message.{Message, kind_of, ids_of}
use Rattle.frame.specs.Encoding.{encode}
use Rattle.frame.proofs.Encoding.Laws.{length_frame}
use Rattle.frame.specs.Slots.{slots_of}

pub slots_by_count : (m : Message) → slots_of m ≡ list_slots (length (ids_of m))
unfolding slots_of encode
slots_by_count m = omega (arith, length_frame (kind_of m) (ids_of m))

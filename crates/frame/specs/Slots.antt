-- The airtime of a frame (document 02, request 2): "Whoever writes a frame now also reports its slots, one for each 8 bytes begun."
use Rattle.std.specs.Prelude.{ℕ, length}
use Rattle.limits.specs.Limits.{frame_slots}
use Rattle.frame.specs.declared.size.FrameSize.{FrameSize}
use Rattle.frame.specs.Message.{Message}
use Rattle.frame.specs.Encoding.{encode}

-- a frame's length, and its slots beside it
abbrev pub size_of : ℕ → FrameSize
size_of bytes = record { length = bytes; slots = frame_slots bytes }

-- the slots of a message's frame
unfoldable pub slots_of : Message → ℕ
slots_of m = frame_slots (length (encode m))

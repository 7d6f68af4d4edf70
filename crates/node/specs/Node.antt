-- What a base of the program's net stands for: its record, its broadcasts, and the carries made to it ("The net over a whole
-- history", document 01).
use Rattle.std.specs.Prelude.{ℕ, ◌+◌, ◌*◌, ◌-◌, Bool, not, List, [], ◌∷◌, map, eqb, ltb, leb, length, get_or, take, set, replicate}
use Rattle.limits.specs.Limits.{most_bases, longest_frame}
use Rattle.lists.specs.Choice.{choose, and}
use Rattle.lists.specs.Lists.{pad_to}
use Rattle.frame.specs.Encoding.{encode}
use Rattle.protocol.specs.declared.Base.{Base}
use Rattle.protocol.specs.Steps.{Done}
use Rattle.node.specs.declared.Frame.{Frame}
use Rattle.node.specs.declared.Node.{Node}
pub mod Within
pub mod Memory
pub mod Log

-- "A base broadcasts at most n + 3 in its life."
abbrev pub most_broadcasts : ℕ
most_broadcasts = most_bases + 3

-- one mark for each broadcast of each base
abbrev pub mark_room : ℕ
mark_room = most_bases * most_broadcasts

-- x is one of 1 to most
unfoldable pub in_range : ℕ → ℕ → Bool
in_range x most = and (leb 1 x) (leb x most)

-- ---- broadcasts
-- the bytes of a frame
unfoldable pub written : Frame → List ℕ
written f = take f.len f.bytes

-- "each base's broadcasts, numbered from 1 in the order written"
unfoldable pub log_of : Node → List (List ℕ)
log_of v = map written (take v.count v.frames)

unfoldable pub stored_frame : List ℕ → Frame
stored_frame bytes = record { len = length bytes; bytes = pad_to longest_frame bytes }

-- a base's k-th broadcast, and an empty frame for one that was not broadcast
abbrev pub empty_frame : Frame
empty_frame = record { len = 0; bytes = replicate longest_frame 0 }

-- the frame that is read past the end of an array
abbrev pub no_frame : Frame
no_frame = record { len = 0; bytes = [] }

unfoldable pub frame_at : Node → ℕ → Frame
frame_at v k = choose (ltb (k - 1) (length (log_of v))) (get_or v.frames (k - 1) no_frame) empty_frame

-- one broadcast more, while there is room: in a history there always is
unfoldable pub joined : Node → List ℕ → Node
joined v bytes =
    choose (ltb v.count most_broadcasts)
    (record { base = v.base; count = v.count + 1; frames = set v.frames v.count (stored_frame bytes); heard = v.heard })
    v

-- "Frames written join b's broadcasts in their order"
unfoldable pub joined_all : Node → List (List ℕ) → Node
joined_all v [] = v
joined_all v (bytes ∷ log) = joined_all (joined v bytes) log

-- ---- calls
unfoldable pub with_base : Node → Base → Node
with_base v b = record { base = b; count = v.count; frames = v.frames; heard = v.heard }

-- a base after a call on its record; a call that is turned down changes nothing
unfoldable pub node_after : Node → Done → Node
node_after v d = joined_all (with_base v d.base) (map encode d.says)

-- ---- carries
-- the place of the mark of a's k-th broadcast
unfoldable pub mark_place : ℕ → ℕ → ℕ
mark_place a k = (a - 1) * most_broadcasts + (k - 1)

unfoldable pub heard_by : Node → ℕ → ℕ → Bool
heard_by v a k = and (in_range a most_bases) (and (in_range k most_broadcasts) (not (eqb (get_or v.heard (mark_place a k) 0) 0)))

unfoldable pub marked : Node → ℕ → ℕ → Node
marked v a k =
    choose (and (in_range a most_bases) (in_range k most_broadcasts))
    (record { base = v.base; count = v.count; frames = v.frames; heard = set v.heard (mark_place a k) 1 })
    v

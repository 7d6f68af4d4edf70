-- The sizes and limits of document 01, stated once. Most follow from the most bases of a net. src/lib.rt has them as constants.
use Rattle.std.specs.Prelude.{ℕ, ◌+◌, ◌*◌, ◌-◌, ◌/◌}

-- "n bases, 2 to 16" ("The net and its words")
abbrev pub fewest_bases : ℕ
fewest_bases = 2

abbrev pub most_bases : ℕ
most_bases = 16

-- "t is at most (n − 2) / 2 rounded down" ("The net and its words")
abbrev pub most_faulty : ℕ → ℕ
most_faulty n = (n - 2) / 2

-- "Each base numbers its links 1 to n − 1" ("The net and its words")
abbrev pub most_links : ℕ
most_links = most_bases - 1

-- "Announce and Verify together are at most n + 1" ("What a base holds")
abbrev pub list_room : ℕ
list_room = most_bases + 1

-- "always 4 × count + 4": the bytes of a frame of so many identifiers ("Frames, read from the end")
abbrev pub frame_bytes : ℕ → ℕ
frame_bytes count = 4 * count + 4

abbrev pub longest_frame : ℕ
longest_frame = frame_bytes most_bases

-- "its slots, one for each 8 bytes begun": of a frame of so many bytes (document 02, request 2)
abbrev pub frame_slots : ℕ → ℕ
frame_slots bytes = (bytes + 7) / 8

-- "(n + 1) / 2 rounded up": the slots of a frame of n identifiers (document 02, request 2)
abbrev pub list_slots : ℕ → ℕ
list_slots n = (n + 2) / 2

-- "136 bytes at most": two frames of the longest ("The steps", number 6)
abbrev pub output_room : ℕ
output_room = 2 * longest_frame

-- "shorter than 8 or longer than 132 bytes": a frame of one identifier; the longest frame and 64 bytes of preamble (number 7)
abbrev pub shortest_burst : ℕ
shortest_burst = frame_bytes 1

abbrev pub longest_burst : ℕ
longest_burst = longest_frame + 64

-- "`forge a b hex` (a burst to b as if from a, 0 to 132 bytes": what a line has room for, whatever a base turns down ("The replay program")
abbrev pub longest_forgery : ℕ
longest_forgery = 132

-- "A schedule exceeds 65,536 bytes" (number 13)
abbrev pub longest_schedule : ℕ
longest_schedule = 65536

-- "List every set of at most t links for up to 6 bases" (document 02, request 1, number 19)
abbrev pub small_bases : ℕ
small_bases = 6

-- Airtime (document 02, request 2): of the messages that a base says, the slots that are its own and those that it relays, "each counted
-- once though every link gets it".
use Rattle.std.specs.Prelude.{ℕ, ◌+◌, Bool, true, false, List, eqb, length}
use Rattle.limits.specs.Limits.{list_slots}
use Rattle.lists.specs.Choice.{choose}
use Rattle.lists.specs.Lists.{sum_over}
use Rattle.frame.specs.Message.{Message, announce, verify, correct_final, verify_final}
use Rattle.frame.specs.Slots.{slots_of}
use Rattle.protocol.specs.declared.Base.{Base}
use Rattle.protocol.specs.Record.{link_at, link_count, announced}
use Rattle.protocol.specs.Sound.{idle, stopped}
pub mod Statement

-- "own (Announce, Verify of the own identifier, Correct-Final) and relayed (the rest)", at a base with that identifier
unfoldable pub is_own : ℕ → Message → Bool
is_own own (announce g) = true
is_own own (verify g) = eqb g own
is_own own (correct_final v) = true
is_own own (verify_final v) = false

-- what a message adds to the own sum, and to the relayed one
unfoldable pub own_part : ℕ → Message → ℕ
own_part own m = choose (is_own own m) (slots_of m) 0

unfoldable pub relayed_part : ℕ → Message → ℕ
relayed_part own m = choose (is_own own m) 0 (slots_of m)

unfoldable pub own_slots : ℕ → List Message → ℕ
own_slots own says = sum_over says (own_part own)

unfoldable pub relayed_slots : ℕ → List Message → ℕ
relayed_slots own says = sum_over says (relayed_part own)

-- ---- what a record tells of the slots that its base has taken since it was idle
-- own: the two frames of its start, and a Correct-Final if it has stopped
unfoldable pub own_taken : Base → ℕ
own_taken b = choose (idle b) 0 2 + choose (stopped b) (list_slots b.n) 0

-- relayed: a Verify for each identifier that was announced to it, and a Verify-Final if one was sent
unfoldable pub relayed_taken : Base → ℕ
relayed_taken b = length (announced (link_count b) (link_at b)) + choose (eqb b.sent 0) 0 (list_slots b.n)

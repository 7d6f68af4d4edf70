-- The net after a header that is not turned down: n bases, t and at most t faulty links, idle records whose identifiers are above
-- zero and different.
use Rattle.std.specs.Prelude.{ℕ, List}
use Rattle.schedule.specs.Walk.{net_step, id_steps}
use Rattle.schedule.specs.Meaning.{Progress, unread, header, scheduled}

-- ---- the whole header
-- the lines `net n t` and `id b v`
abbrev pub with_ids : List ℕ → Progress
with_ids s = let sized = net_step scheduled s unread in id_steps scheduled s sized.n sized

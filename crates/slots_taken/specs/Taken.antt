-- What a record tells of its base's slots, as the code hands it on.
use Rattle.std.specs.Prelude.{ℕ, ◌+◌, eqb, leb}
use Rattle.limits.specs.Limits.{list_slots}
use Rattle.lists.specs.Choice.{choose}
use Rattle.protocol.specs.declared.Base.{Base}
use Rattle.protocol.specs.Airtime.{own_taken, relayed_taken}
use Rattle.slots_taken.specs.declared.Slots.{Slots}
pub mod Laws

unfoldable pub slots_taken : Base → Slots
slots_taken b = record { own = own_taken b; relayed = relayed_taken b }

-- the parts of both sums, by the state and by whether a Verify-Final was sent
unfoldable pub own_by : ℕ → ℕ → ℕ
own_by n state = choose (eqb state 0) 0 2 + choose (leb 2 state) (list_slots n) 0

unfoldable pub vote_by : ℕ → ℕ → ℕ
vote_by n sent = choose (eqb sent 0) 0 (list_slots n)

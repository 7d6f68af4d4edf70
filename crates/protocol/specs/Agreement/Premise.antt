-- The premise of the statement can be met, in every net size: the idle records that are made from n, t and different identifiers of 32 bits
-- are a net at the beginning. So the statement is about something.
use Rattle.std.specs.Prelude.{ℕ, false, []}
use Rattle.protocol.specs.Sound.{idle, idle_base}
use Rattle.protocol.specs.Net.{Net}

-- an idle record for each base, no broadcast, no carry
unfoldable pub idle_net : ℕ → ℕ → (ℕ → ℕ) → Net
idle_net n t id = record { base = λ b. idle_base n t (id b); log = λ b. []; carried = λ a b k. false }

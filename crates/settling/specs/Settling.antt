-- A message at a base that runs, as the code takes it apart: what is accepted, what is decided.
use Rattle.std.specs.Prelude.{ℕ, ◌-◌, min, List, get_or}
use Rattle.limits.specs.Limits.{most_links}
use Rattle.lists.specs.Choice.{choose}
use Rattle.lists.specs.Lists.{member}
use Rattle.protocol.specs.declared.Base.{Base}
use Rattle.protocol.specs.Record.{link_at, certified}
use Rattle.protocol.specs.Steps.{with_link}
use Rattle.protocol.specs.Steps.Cases.{begun}
use Rattle.accepting.specs.declared.Accepted.{Accepted}
use Rattle.accepting.specs.Accepting.{accepted_on}
use Rattle.deciding.specs.declared.Decision.{Decision}
use Rattle.deciding.specs.Deciding.{runs_on, decision_of}
pub mod Places

-- a place; past the last link, the last
unfoldable pub within_links : ℕ → ℕ
within_links i = min i (most_links - 1)

-- the message at a link: accepted, and held there, or discarded
unfoldable pub accepted_at : Base → ℕ → ℕ → List ℕ → Accepted
accepted_at b i kind ids = accepted_on b.n (member (get_or ids 0 0) (certified b)) (link_at b i) kind ids

-- what the base decides then, once it runs; nothing where the message is discarded
unfoldable pub decided_at : Base → ℕ → Accepted → ℕ → List ℕ → Decision
decided_at b i a kind ids =
    choose a.accepted (decision_of (with_link (begun b) i a.link) kind ids) (runs_on (begun b) 0 b.sent)

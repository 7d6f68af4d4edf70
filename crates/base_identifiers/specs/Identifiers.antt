-- The identifiers of the bases while a schedule's header is read ("The replay program", document 01): what `id b v` does to them, and
-- the net of which its numbers speak.
use Rattle.std.specs.Prelude.{ℕ, ◌-◌, List, get_or, set}
use Rattle.limits.specs.Limits.{most_bases}
use Rattle.lists.specs.Choice.{choose}
use Rattle.protocol.specs.Net.{Net}
use Rattle.protocol.specs.Agreement.Premise.{idle_net}
use Rattle.node.specs.Node.{in_range}
pub mod Laws

-- `id b v`
unfoldable pub named_ids : List ℕ → ℕ → ℕ → List ℕ
named_ids ids b v = choose (in_range b most_bases) (set ids (b - 1) v) ids

-- an idle net whose bases have these identifiers; its numbers are `id_refusal` of the schedule's
unfoldable pub ids_net : List ℕ → Net
ids_net ids = idle_net 0 0 (λ b. get_or ids (b - 1) 0)

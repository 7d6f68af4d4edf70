-- `base_identifiers::is_named` meets its contract: as long as no base from b on has the identifier, those below decide.
use Prim.Native.Nat.{◌≤◌}
use mathlib.Core.Path.{◌≡◌}
use Rattle.limits.specs.Limits.{most_bases}
use Rattle.schedule.specs.Header.{owned}
use Rattle.base_identifiers.specs.Identifiers.{ids_net}
use Rattle.base_identifiers.proofs.is_named.Given as goal

abbrev pub invariant-loop-b : goal.invariant-loop-b
invariant-loop-b l = (l.b ≤ most_bases) × (owned most_bases (ids_net l.ids) l.v ≡ owned l.b (ids_net l.ids) l.v)

abbrev pub decreases-loop-b : goal.decreases-loop-b
decreases-loop-b l = l.b

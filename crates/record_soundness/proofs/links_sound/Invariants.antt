-- `record_soundness::links_sound` meets its contract: the places are tested from the last to the first.
use Rattle.limits.specs.Limits.{most_links}
use Rattle.protocol.specs.Record.{link_at}
use Rattle.protocol.specs.Sound.{place_sound}
use Rattle.record_soundness.proofs.Each.{PassedFrom}
use Rattle.record_soundness.proofs.links_sound.Given as goal

abbrev pub invariant-loop-i : goal.invariant-loop-i
invariant-loop-i l = PassedFrom most_links (λ j. place_sound l.size j (link_at l.base j)) l.i

abbrev pub decreases-loop-i : goal.decreases-loop-i
decreases-loop-i l = l.i

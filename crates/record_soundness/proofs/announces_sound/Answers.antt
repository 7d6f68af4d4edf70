-- `record_soundness::announces_sound` meets its contract: no certified identifier is listed twice.
use mathlib.Core.Path.{ap, ◌∙◌}
use Rattle.certified.specs.Listed.{listed}
use Rattle.protocol.specs.Sound.{announces_sound}
use Rattle.protocol.specs.Record.{certified}
use Rattle.lists.specs.Lists.{distinct}
use Rattle.record_soundness.proofs.announces_sound.Goals as goal

pub returns : goal.returns
unfolding announces_sound
returns c = c.differ.ensures ∙ ap distinct (listed (certified c.args.base)
    _ c.certified_ids-list.ensures)

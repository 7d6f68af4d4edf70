-- `certification::certifies` meets its contract: the identifier is looked for in the list.
use mathlib.Core.Path.{ap, ◌∙◌}
use Rattle.lists.specs.Lists.{member}
use Rattle.certified.specs.Listed.{listed}
use Rattle.protocol.specs.Record.{certified}
use Rattle.certification.proofs.certifies.Goals as goal

pub returns : goal.returns
returns c = let a = c.args in
    c.holds.ensures ∙ ap (member a.g) (listed (certified a.base) _ c.certified_ids-list.ensures)

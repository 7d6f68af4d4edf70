-- `suspects::suspect_own` meets its contract, by whether the link has an Announce.
use mathlib.Core.Bool.{not}
use mathlib.Core.Path.{sym, ap, ◌∙◌}
use Rattle.protocol.specs.Record.{suspect_own}
use Rattle.lists.specs.Choice.{and}
use Rattle.suspects.proofs.suspect_own.Goals as goal

pub returns-then-has_announce : goal.returns-then-has_announce
unfolding suspect_own and
returns-then-has_announce c = ap not c.holds_verify.ensures ∙ simp (sym c.has_announce.ensures ∙ c.if-has_announce.true)

pub returns : goal.returns
unfolding suspect_own and
returns c = simp (sym c.has_announce.ensures ∙ c.if-has_announce.false)

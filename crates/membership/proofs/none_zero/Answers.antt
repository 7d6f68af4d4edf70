-- `membership::none_zero` meets its contract: no zero stands there exactly if zero is no member.
use mathlib.Core.Bool.{not}
use mathlib.Core.Path.{sym, ap, ◌∙◌}
use Rattle.lists.specs.Lists.Laws.{nonzero_member}
use Rattle.membership.proofs.none_zero.Goals as goal

pub returns : goal.returns
returns c = ap not c.holds.ensures ∙ sym (nonzero_member _)

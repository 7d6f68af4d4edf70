-- `faulty_links::joins_bases` meets its contract: either way round.
use mathlib.Core.Path.{sym, ◌∙◌}
use Rattle.lists.specs.Choice.Laws.{or_first}
use Rattle.lists.specs.Choice.{or}
use Rattle.protocol.specs.Net.{joins}
use Rattle.faulty_links.specs.Faulty.{pair_of}
use Rattle.faulty_links.proofs.joins_bases.Goals as goal

pub returns-then-is_from : goal.returns-then-is_from
unfolding joins pair_of
returns-then-is_from c = sym (or_first _ (sym c.is_from.ensures ∙ c.if-is_from.true))

pub returns : goal.returns
unfolding joins pair_of or
returns c = rw (sym c.is_from.ensures ∙ c.if-is_from.false) c.is_from-2.ensures

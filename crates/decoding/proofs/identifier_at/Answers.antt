-- `decoding::identifier_at` meets its contract: the four bytes from a place on are those that the rest begins with.
use mathlib.Core.Path.{◌∙◌}
use Rattle.frame.proofs.Reading.Laws.{identifier_there}
use Rattle.decoding.proofs.identifier_at.Goals as goal

pub returns : goal.returns
returns c = let a = c.args in c.joined.ensures ∙ identifier_there a.s.now a.at

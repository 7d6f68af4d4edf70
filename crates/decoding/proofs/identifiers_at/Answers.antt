-- `decoding::identifiers_at` meets its contract: the identifiers of that part of the burst.
use mathlib.Core.Path.{ap, ◌∙◌}
use Rattle.decoding.specs.Decoding.{id_array}
use Rattle.decoding.proofs.identifiers_at.Goals as goal

pub returns : goal.returns
returns c = c.id_array.ensures ∙ ap id_array c.part.ensures

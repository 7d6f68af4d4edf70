-- `faulty_sets::search::with_pair` meets its contract: the next place is taken.
use mathlib.Core.Path.{refl}
use Rattle.faulty_sets.specs.Search.{with_pair}
use Rattle.faulty_sets.proofs.search.with_pair.Goals as goal

pub returns : goal.returns
unfolding with_pair
returns c = refl

-- `faulty_sets::small_refusal` meets its contract: one check after another.
use mathlib.Core.Path.{ap₂, ◌∙◌}
use Rattle.lists.specs.Choice.{first}
use Rattle.faulty_sets.specs.Answers.{small_refusal}
use Rattle.faulty_sets.proofs.small_refusal.Goals as goal

pub returns : goal.returns
unfolding small_refusal
returns c = c.first_of.ensures ∙ ap₂ first c.size_refusal-size.ensures c.large_refusal-large.ensures

-- `call_refusals::setting_refusal` meets its contract: the number of the sizes, and where they give none that of the identifier.
use mathlib.Core.Path.{ap₂, ◌∙◌}
use Rattle.lists.specs.Choice.{first}
use Rattle.protocol.specs.Sound.{setting_refusal}
use Rattle.call_refusals.proofs.setting_refusal.Goals as goal

pub returns : goal.returns
unfolding setting_refusal
returns c = c.first_of.ensures ∙ ap₂ first c.size_refusal.ensures c.own_refusal.ensures

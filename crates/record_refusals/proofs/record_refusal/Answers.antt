-- `record_refusals::record_refusal` meets its contract: numbers 1 to 3 come first, then the record is looked at.
use mathlib.Core.Bool.{not}
use mathlib.Core.Path.{refl, sym, ap, ◌∙◌}
use Rattle.protocol.specs.Sound.{record_refusal}
use Rattle.lists.specs.Choice.Laws.{chosen_yes, chosen_no, first_none, first_given}
use Rattle.record_refusals.proofs.record_refusal.Goals as goal

pub returns-then-setting-ne0 : goal.returns-then-setting-ne0
unfolding record_refusal
returns-then-setting-ne0 c = let e = c.setting_refusal-setting.ensures in e ∙ sym (first_given _ (λ z. c.if-setting-ne0.true (e ∙ z)))

pub returns-then-not-is_sound : goal.returns-then-not-is_sound
unfolding record_refusal
returns-then-not-is_sound c = chosen_yes _ (ap not (sym c.is_sound.ensures ∙ c.if-not-is_sound.true)) refl
    ∙ sym (first_none _ (sym c.setting_refusal-setting.ensures ∙ c.if-setting-ne0.false))

pub returns : goal.returns
unfolding record_refusal
returns c = chosen_no _ (ap not (sym c.is_sound.ensures ∙ c.if-not-is_sound.false)) refl
    ∙ sym (first_none _ (sym c.setting_refusal-setting.ensures ∙ c.if-setting-ne0.false))

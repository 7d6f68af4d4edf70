-- `event_forms::event_line` meets its contract: the word decides.
use mathlib.Core.Path.{sym, ◌∙◌}
use Rattle.lines.specs.Lines.{event_line}
use Rattle.event_forms.proofs.event_line.Goals as goal

pub returns-in-Past : goal.returns-in-Past
unfolding event_line
returns-in-Past c = rw (sym c.word_at.ensures ∙ c.in-Past.is) c.start_fields.ensures

pub returns-in-Past-word_at : goal.returns-in-Past-word_at
unfolding event_line
returns-in-Past-word_at c =
    rw (
      sym c.word_at.ensures
          ∙ c.in_default.is,
      sym c.word_at-2.ensures ∙ c.in-Past-word_at.is,
    ) c.carry_fields.ensures

pub returns-in-Past-word_at-2 : goal.returns-in-Past-word_at-2
unfolding event_line
returns-in-Past-word_at-2 c =
    rw (
      sym c.word_at.ensures
          ∙ c.in_default.is,
      sym c.word_at-2.ensures
          ∙ c.in_default-word_at.is,
      sym c.word_at-3.ensures ∙ c.in-Past-word_at-2.is,
    ) c.forge_fields.ensures

pub returns : goal.returns
unfolding event_line
returns c =
    rw (
      sym c.word_at.ensures
          ∙ c.in_default.is,
      sym c.word_at-2.ensures ∙ c.in_default-word_at.is,
      sym c.word_at-3.ensures ∙ c.in_default-word_at-2.is,
    )

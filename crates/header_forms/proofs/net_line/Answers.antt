-- `header_forms::net_line` meets its contract: the word, and two numbers behind it.
use mathlib.Core.Path.{sym, ◌∙◌}
use Rattle.lines.specs.Lines.{net_line}
use Rattle.header_forms.proofs.net_line.Goals as goal

pub returns-in_default : goal.returns-in_default
unfolding net_line
returns-in_default c = rw (sym c.word_at.ensures ∙ c.in_default.is)

pub returns : goal.returns
unfolding net_line
returns c = rw (sym c.word_at.ensures ∙ c.in-Past.is) c.two_at.ensures

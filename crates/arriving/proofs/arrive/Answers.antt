-- `arriving::arrive` meets its contract: what was read is heard.
use Rattle.hearing.specs.Hearing.Bursts.{burst_heard_as}
use Rattle.change.specs.Change.Laws.{does_as}
use Rattle.hearing.specs.Hearing.{message_arrival}
use Rattle.readings.specs.declared.ReadAnswer.{ReadAnswer}
use lib.ListN.{length}
use mathlib.Core.Path.{sym, ap, ◌∙◌}
use Rattle.arriving.proofs.arrive.Goals as goal

pub returns : goal.returns
returns c = let a = c.args in
    does_as (burst_heard_as a.base a.link a.burst.now (length a.out.now)
    ∙ ap (λ (h : ReadAnswer). message_arrival a.base a.link h.refusal h.kind h.ids (length a.out.now))
    (sym c.read_numbers-heard.ensures))
    c.hear.ensures

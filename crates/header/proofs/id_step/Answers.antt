-- `header::id_step` meets its contract: the line's form, then numbers 3 and 14.
use Prim.Native.Nat.{ℕ}
use mathlib.Core.Path.{sym, ap, ◌∙◌}
use mathlib.Core.List.{List}
use Rattle.net.proofs.Sizes.{header_sized}
use Rattle.net.specs.Header.{begun_net}
use Rattle.net.specs.Header.Begun.{id_number_is}
use Rattle.schedule.specs.Walk.{id_step}
use Rattle.stored_walk.specs.State.{onward_header}
use Rattle.stored_walk.specs.State.Begun.{named_onward}
use Rattle.stored_walk.specs.State.Laws.{unless_stopped, unless_onward, judged_refused, judged_onward}
use Rattle.header.proofs.id_step.Goals as goal

pub returns-then-header-ne0 : goal.returns-then-header-ne0
unfolding id_step begun_net
returns-then-header-ne0 c = unless_stopped _ _ c.if-header-ne0.true

pub returns-in_default : goal.returns-in_default
unfolding id_step begun_net
returns-in_default c = unless_onward _ c.if-header-ne0.false
    (rw (sym c.id_line.ensures ∙ c.in_default.is) c.refuse.ensures)

pub returns-then-refusal-ne0 : goal.returns-then-refusal-ne0
unfolding id_step begun_net
returns-then-refusal-ne0 c =
    unless_onward _ c.if-header-ne0.false
    (rw (sym c.id_line.ensures
    ∙ c.in-Value.is)
    (judged_refused _ _ (c.id_refusal-refusal.ensures ∙ id_number_is c.args.header
    (header_sized c.args.header _ c.well_formed.1.1.0) _)
    c.if-refusal-ne0.true c.refuse-then-refusal-ne0.ensures))

pub onward-requires : goal.onward-requires
onward-requires c = c.requires

pub returns : goal.returns
unfolding id_step begun_net
returns c =
    let h = c.args.header in
    let sized = header_sized h _ c.well_formed.1.1.0 in
    let next = c.in-Value.next in
    unless_onward _ c.if-header-ne0.false
    (rw (sym c.id_line.ensures
    ∙ c.in-Value.is)
    (judged_onward _ (c.id_refusal-refusal.ensures ∙ id_number_is h sized _)
    c.if-refusal-ne0.false
    (ap begun_net (c.onward.ensures ∙ ap (λ (l : List ℕ). onward_header h l h.faulty next) c.named_ids.ensures)
    ∙ named_onward h c.args.b _ next sized)))

-- `header::net_step` meets its contract: the line's form, then numbers 1 and 2.
use native.Mathlib.Omega.{arith}
use mathlib.Core.Path.{◌≡◌, sym, ap, ◌∙◌}
use Rattle.limits.specs.Refusals.{size_refusal}
use Rattle.net.specs.Header.{made_net}
use Rattle.limits.specs.Refusals.Laws.{size_passed}
use Rattle.schedule.specs.Walk.{net_step}
use Rattle.stored_walk.specs.State.{refused_net}
use Rattle.stored_walk.specs.State.Laws.{judged_refused, judged_onward}
use Rattle.header.proofs.net_step.Goals as goal

passed : (c : goal.Else-refusal-ne0) → size_refusal c.in-Both.n c.in-Both.t ≡ 0
passed c = sym c.size_refusal-refusal.ensures ∙ c.if-refusal-ne0.false

pub returns-in_default : goal.returns-in_default
unfolding net_step made_net
returns-in_default c = rw (sym c.net_line.ensures ∙ c.in_default.is)
    (c.refuse.ensures ∙ ap (refused_net 13) c.fresh.ensures)

pub returns-then-refusal-ne0 : goal.returns-then-refusal-ne0
unfolding net_step made_net
returns-then-refusal-ne0 c = rw (sym c.net_line.ensures
    ∙ c.in-Both.is)
    (judged_refused _ _ c.size_refusal-refusal.ensures c.if-refusal-ne0.true
    (c.refuse-then-refusal-ne0.ensures ∙ ap (refused_net c.size_refusal-refusal.result) c.fresh-then-refusal-ne0.ensures))

pub overflow_cast-n-2 : goal.overflow_cast-n-2
overflow_cast-n-2 c = omega (arith, (size_passed _ _ (passed c)).0.most)

pub overflow_cast-t-2 : goal.overflow_cast-t-2
overflow_cast-t-2 c = omega (arith, (size_passed _ _ (passed c)).0.most, (size_passed _ _ (passed c)).1)

pub returns : goal.returns
unfolding net_step made_net
returns c = rw (sym c.net_line.ensures
    ∙ c.in-Both.is)
    (judged_onward _ c.size_refusal-refusal.ensures c.if-refusal-ne0.false c.fresh-2.ensures)

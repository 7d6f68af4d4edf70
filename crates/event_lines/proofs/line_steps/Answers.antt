-- `event_lines::line_steps` meets its contract: each turn of the loop is one line, what it does to the base that it reaches; where no line
-- follows, or one is turned down, no line more changes anything.
use native.Mathlib.Omega.{arith}
use Prim.Native.Nat.{ℕ, ◌+◌, ◌-◌, ◌≤◌, ◌<◌}
use mathlib.Core.Path.{◌≡◌, sym, ap, ◌∙◌, subst}
use mathlib.Core.List.{List}
use lib.ListN.{length}
use Rattle.limits.specs.Limits.{most_bases}
use Rattle.net.specs.declared.StoredNet.{StoredNet}
use Rattle.net.specs.Abstraction.{faulty_of}
use Rattle.events.specs.Events.{Moved}
use Rattle.schedule.specs.Walk.{next_line, repeat}
use Rattle.schedule.proofs.Walk.Laws.{repeat_none, repeat_more, repeat_done}
use Rattle.stored_walk.specs.State.{most_lines, HasBytes, refused_net, onward_net, line_moved, replaying, line_after}
use Rattle.stored_walk.specs.State.Laws.{line_stays, line_stopped, line_goes_on, line_after_lem, line_refused, line_onward, found_bytes}
use Rattle.stored_walk.specs.Reaching.{stored, line_stored}
use Rattle.event_lines.proofs.line_steps.Goals as goal

-- a line more, where the lines before it were not turned down
whole : (s : List ℕ) (net first : StoredNet) (i : ℕ) → net ≡ repeat i (line_after s) first
    → ((net.refusal ≡ 0) × (net.at < length s)) × ((net.n ≤ most_bases) × (net.line ≤ most_lines))
    → {p : StoredNet} → p ≡ next_line replaying s net → p ≡ repeat (i + 1) (line_after s) first
whole s net first i before more e = repeat_more _ _ _ before (e ∙ sym (line_after_lem s net more.1.0 more.1.1))

pub loop-i-init : goal.loop-i-init
loop-i-init c = (omega arith, repeat_none _ _)

pub returns-then-not-goes_on : goal.returns-then-not-goes_on
returns-then-not-goes_on c =
    repeat_done _ c.loop-i.i _ _ c.loop-i.invariant.0 c.loop-i.invariant.1 (sym (line_stays c.args.s.now c.loop-i.after
    (sym c.goes_on.ensures ∙ c.if-not-goes_on.true)))

pub happen-reached-requires : goal.happen-reached-requires
happen-reached-requires c =
    let s = c.args.s.now in
    subst (HasBytes s) (sym c.event_line-line.ensures) (found_bytes c.loop-i.after.n s c.loop-i.after.at)

pub returns-then-reached-ne0 : goal.returns-then-reached-ne0
unfolding refused_net faulty_of
returns-then-reached-ne0 c =
    let s = c.args.s.now in
    let net = c.loop-i.after in
    let reached = c.happen-reached.result in
    let next : Moved = record { refusal = reached.refusal; net = stored net c.places_of-places.result.to reached.node } in
    let more = line_goes_on s net (sym c.goes_on.ensures ∙ c.if-not-goes_on.false) in
    let happens : next ≡ line_moved s net c.event_line-line.result =
    line_stored s net net.at c.event_line-line.result more.1.0 c.event_line-line.ensures c.places_of-places.ensures.from_value.0
    c.places_of-places.ensures.to_value.0 c.happen-reached.ensures in
    repeat_done _ (c.loop-i.i + 1) _ _ (omega (arith, c.loop-i-test.true))
    (whole s net c.args.net c.loop-i.i c.loop-i.invariant.1 more (line_refused s net _ next more.0.0 more.0.1
    c.event_line-line.ensures happens c.if-reached-ne0.true)) (line_stopped _ _ c.if-reached-ne0.true)

pub overflow_add-after : goal.overflow_add-after
overflow_add-after c =
    let more = line_goes_on c.args.s.now c.loop-i.after (sym c.goes_on.ensures ∙ c.if-not-goes_on.false) in
    omega (arith, more.1.1)

pub loop-i-preserved : goal.loop-i-preserved
unfolding onward_net faulty_of
loop-i-preserved c =
    let s = c.args.s.now in
    let net = c.loop-i.after in
    let reached = c.happen-reached.result in
    let next : Moved = record { refusal = reached.refusal; net = stored net c.places_of-places.result.to reached.node } in
    let more = line_goes_on s net (sym c.goes_on.ensures ∙ c.if-not-goes_on.false) in
    let happens : next ≡ line_moved s net c.event_line-line.result =
    line_stored s net net.at c.event_line-line.result more.1.0 c.event_line-line.ensures c.places_of-places.ensures.from_value.0
    c.places_of-places.ensures.to_value.0 c.happen-reached.ensures in (
      omega (arith, c.loop-i-test.true),
      whole s net c.args.net c.loop-i.i c.loop-i.invariant.1 more
          (ap (λ (i : ℕ). onward_net net next.net i) c.places_of-places.ensures.next_value
          ∙ line_onward s net _ next more.0.0 more.0.1 c.event_line-line.ensures happens c.if-reached-ne0.false),
    )

pub returns : goal.returns
returns c =
    let a = c.args in
    let all : c.loop-i.i ≡ a.most = omega arith in
    c.loop-i.invariant.1 ∙ ap (λ (k : ℕ). repeat k (line_after a.s.now) a.net) all

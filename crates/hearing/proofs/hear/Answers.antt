-- `hearing::hear` meets its contract: turned down by the first of all numbers, or the step, state by state.
-- the number that the code has is that of the call
use Rattle.hearing.specs.Hearing.{place_refusal, hear_refusal}
use Rattle.hearing.specs.Hearing.Laws.{heard_passed, heard_down}
use Rattle.hearing.specs.Hearing.Arrival.{heard_stopped, heard_running, heard_idle}
use Rattle.lists.specs.Choice.{first}
use Rattle.change.specs.Change.Laws.{does_as, refuses_does}
use Rattle.protocol.specs.Steps.{with_state}
use Rattle.protocol.proofs.Sizes.{base_sized}
use lib.ListN.{length}
use mathlib.Core.Path.{◌≡◌, sym, ap, ap₂, ◌∙◌}
use Rattle.hearing.proofs.hear.Goals as goal

pub returns-then-refusal-ne0 : goal.returns-then-refusal-ne0
unfolding place_refusal hear_refusal
returns-then-refusal-ne0 c = let number : let a = c.args in
    c.first_of-refusal.result ≡ hear_refusal a.base a.link a.number a.kind a.ids (length a.out.now) =
    c.first_of-refusal.ensures ∙ ap₂ first (c.first_of.ensures ∙ ap₂ first c.record_refusal.ensures (c.first_of-place.ensures
    ∙ ap₂ first c.link_refusal.ensures c.output_refusal.ensures)) (c.first_of-message.ensures
    ∙ ap (first _) c.message_refusal.ensures) in
    let a = c.args in
    does_as (heard_down a.base a.link a.number a.kind a.ids _ _ number c.if-refusal-ne0.true)
    (refuses_does _ _ _ c.refused.ensures)

pub returns-then-base-ge-PRIME : goal.returns-then-base-ge-PRIME
unfolding with_state place_refusal hear_refusal
returns-then-base-ge-PRIME c = let number : let a = c.args in
    c.first_of-refusal.result ≡ hear_refusal a.base a.link a.number a.kind a.ids (length a.out.now) =
    c.first_of-refusal.ensures ∙ ap₂ first (c.first_of.ensures ∙ ap₂ first c.record_refusal.ensures (c.first_of-place.ensures
    ∙ ap₂ first c.link_refusal.ensures c.output_refusal.ensures)) (c.first_of-message.ensures
    ∙ ap (first _) c.message_refusal.ensures) in
    let passes : let a = c.args in hear_refusal a.base a.link a.number a.kind a.ids (length a.out.now) ≡ 0 =
    sym number ∙ c.if-refusal-ne0.false in
    heard_stopped _ _ _ _ _ _ passes _ c.if-base-ge-PRIME.true c.discarded.ensures

pub overflow_sub-i : goal.overflow_sub-i
unfolding place_refusal hear_refusal
overflow_sub-i c = let number : let a = c.args in
    c.first_of-refusal.result ≡ hear_refusal a.base a.link a.number a.kind a.ids (length a.out.now) =
    c.first_of-refusal.ensures ∙ ap₂ first (c.first_of.ensures ∙ ap₂ first c.record_refusal.ensures (c.first_of-place.ensures
    ∙ ap₂ first c.link_refusal.ensures c.output_refusal.ensures)) (c.first_of-message.ensures
    ∙ ap (first _) c.message_refusal.ensures) in
    let passes : let a = c.args in hear_refusal a.base a.link a.number a.kind a.ids (length a.out.now) ≡ 0 =
    sym number ∙ c.if-refusal-ne0.false in
    (heard_passed _ _ _ _ _ _ passes).place.some

pub returns-then-base-ne-IDLE : goal.returns-then-base-ne-IDLE
unfolding place_refusal hear_refusal
returns-then-base-ne-IDLE c = let number : let a = c.args in
    c.first_of-refusal.result ≡ hear_refusal a.base a.link a.number a.kind a.ids (length a.out.now) =
    c.first_of-refusal.ensures ∙ ap₂ first (c.first_of.ensures ∙ ap₂ first c.record_refusal.ensures (c.first_of-place.ensures
    ∙ ap₂ first c.link_refusal.ensures c.output_refusal.ensures)) (c.first_of-message.ensures
    ∙ ap (first _) c.message_refusal.ensures) in
    let passes : let a = c.args in hear_refusal a.base a.link a.number a.kind a.ids (length a.out.now) ≡ 0 =
    sym number ∙ c.if-refusal-ne0.false in
    heard_running _ _ _ _ _ _ passes _ c.well_formed.1.1.1.1.0.1.0.1 _ c.accepted_at-accepted.ensures _ c.decided-decision.ensures _
    c.if-base-ge-PRIME.false c.if-base-ne-IDLE.true c.respond.ensures.0 c.respond.ensures.1

pub returns : goal.returns
unfolding place_refusal hear_refusal
returns c = let number : let a = c.args in
    c.first_of-refusal.result ≡ hear_refusal a.base a.link a.number a.kind a.ids (length a.out.now) =
    c.first_of-refusal.ensures ∙ ap₂ first (c.first_of.ensures ∙ ap₂ first c.record_refusal.ensures (c.first_of-place.ensures
    ∙ ap₂ first c.link_refusal.ensures c.output_refusal.ensures)) (c.first_of-message.ensures
    ∙ ap (first _) c.message_refusal.ensures) in
    let passes : let a = c.args in hear_refusal a.base a.link a.number a.kind a.ids (length a.out.now) ≡ 0 =
    sym number ∙ c.if-refusal-ne0.false in
    heard_idle _ _ _ _ _ _ passes _ c.well_formed.1.1.1.1.0.1.0.1 _ c.accepted_at-accepted-2.ensures _ c.decided-decision-2.ensures _
    (base_sized c.args.base _ c.well_formed.0) c.if-base-ne-IDLE.false c.respond_first.ensures.0 c.respond_first.ensures.1

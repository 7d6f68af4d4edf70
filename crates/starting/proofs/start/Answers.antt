-- `starting::start` meets its contract.
-- the number that the code has is that of the start
use Rattle.starting.specs.Starts.{start_down, start_wide, start_idle, start_on, begins_does}
use Rattle.change.specs.Change.Laws.{does_as, refuses_does, discards_does}
use Rattle.lists.specs.Choice.{first}
use Rattle.protocol.specs.Sound.{record_refusal}
use Rattle.protocol.specs.Steps.{with_state, output_refusal}
use mathlib.Core.Path.{◌≡◌, ap₂, ◌∙◌}
use lib.ListN.{length}
use Rattle.starting.proofs.start.Goals as goal

pub returns-then-turned_down-ne0 : goal.returns-then-turned_down-ne0
returns-then-turned_down-ne0 c = let number : let a = c.args in
    c.first_of-turned_down.result ≡ first (record_refusal a.base) (output_refusal (length a.out.now)) =
    c.first_of-turned_down.ensures ∙ ap₂ first c.record_refusal.ensures c.output_refusal.ensures in
    does_as (start_down c.args.base _ _ number c.if-turned_down-ne0.true)
    (refuses_does _ _ _ c.refused.ensures)

pub returns-then-base-ne-IDLE : goal.returns-then-base-ne-IDLE
unfolding with_state
returns-then-base-ne-IDLE c = let number : let a = c.args in
    c.first_of-turned_down.result ≡ first (record_refusal a.base) (output_refusal (length a.out.now)) =
    c.first_of-turned_down.ensures ∙ ap₂ first c.record_refusal.ensures c.output_refusal.ensures in
    let b = c.args.base in
    does_as (start_on b _ _ number c.if-turned_down-ne0.false c.if-base-ne-IDLE.true)
    (discards_does b _ c.discarded.ensures)

pub returns : goal.returns
returns c = let number : let a = c.args in
    c.first_of-turned_down.result ≡ first (record_refusal a.base) (output_refusal (length a.out.now)) =
    c.first_of-turned_down.ensures ∙ ap₂ first c.record_refusal.ensures c.output_refusal.ensures in
    let b = c.args.base in
    let w = c.begin-begun.ensures in
    let none = c.if-turned_down-ne0.false in
    does_as (start_idle b _ _ number none c.if-base-ne-IDLE.false)
    (begins_does b _ _ _ _ (start_wide b _ _ number none) w.0 c.only_state.ensures.0 c.only_state.ensures.1 w.1)

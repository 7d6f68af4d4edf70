-- `state_text::put_state` meets its contract: where there is room for any state, the state decides.
-- there is room for any state
use native.Mathlib.Omega.{arith}
use borrow.Author.Tests.{eq-eqb, ne_eqb, leb-true}
use Prim.Native.Nat.{◌+◌, ◌≤◌}
use mathlib.Core.Bool.{true}
use mathlib.Core.Path.{◌≡◌, refl, sym, ◌∙◌}
use lib.Dec.{leb}
use lib.ListN.{length}
use Rattle.lists.specs.Choice.Laws.{chosen_yes, chosen_no}
use Rattle.print.specs.Put.Laws.{put_as, put_fits, fits_put, not_put}
use Rattle.protocol.specs.Record.{final_list}
use Rattle.schedule.specs.Report.{state_room, idle_text, running_text, state_text}
use Rattle.state_text.proofs.put_state.Goals as goal

pub returns-then-not-has_room : goal.returns-then-not-has_room
returns-then-not-has_room c = let p = not_put state_room _ _ _ (sym c.has_room.ensures ∙ c.if-not-has_room.true) in
    record { value = p.0; out_after = p.1; upper_bound = omega arith }

pub returns-then-state-eq-IDLE : goal.returns-then-state-eq-IDLE
unfolding state_text
returns-then-state-eq-IDLE c = let fits : leb (c.args.at + state_room) (length c.args.out.now) ≡ true =
    sym c.has_room.ensures ∙ c.if-not-has_room.false in
    let there : c.args.at + state_room ≤ length c.args.out.now = leb-true _ _ fits in
    let A = put_fits (length idle_text) (omega (arith, there)) (c.put_text.ensures.value, c.put_text.ensures.out_after) in
    let is = eq-eqb _ _ c.if-state-eq-IDLE.true in
    let p = fits_put state_room fits (put_as (chosen_yes _ is refl) A) in
    record { value = p.0; out_after = p.1; upper_bound = omega (arith, A.past) }

pub returns-then-state-eq-RUNNING : goal.returns-then-state-eq-RUNNING
unfolding state_text
returns-then-state-eq-RUNNING c = let fits : leb (c.args.at + state_room) (length c.args.out.now) ≡ true =
    sym c.has_room.ensures ∙ c.if-not-has_room.false in
    let there : c.args.at + state_room ≤ length c.args.out.now = leb-true _ _ fits in
    let A = put_fits (length running_text) (omega (arith, there)) (
      c.put_text-then-state-eq-RUNNING.ensures.value,
      c.put_text-then-state-eq-RUNNING.ensures.out_after,
    ) in
    let is = eq-eqb _ _ c.if-state-eq-RUNNING.true in
    let p = fits_put state_room fits (put_as (chosen_no _ (ne_eqb _ _ c.if-state-eq-IDLE.false) (chosen_yes _ is refl)) A) in
    record { value = p.0; out_after = p.1; upper_bound = omega (arith, A.past) }

pub put_stopped-requires : goal.put_stopped-requires
put_stopped-requires c = let fits : leb (c.args.at + state_room) (length c.args.out.now) ≡ true =
    sym c.has_room.ensures ∙ c.if-not-has_room.false in
    let there : c.args.at + state_room ≤ length c.args.out.now = leb-true _ _ fits in
    omega (arith, there)

pub returns-then-state-eq-PRIME : goal.returns-then-state-eq-PRIME
unfolding state_text final_list
returns-then-state-eq-PRIME c = let fits : leb (c.args.at + state_room) (length c.args.out.now) ≡ true =
    sym c.has_room.ensures ∙ c.if-not-has_room.false in
    let word = chosen_yes _ (eq-eqb _ _ c.if-state-eq-PRIME.true) refl in
    let p = fits_put state_room fits
    (put_as (chosen_no _ (ne_eqb _ _ c.if-state-eq-IDLE.false) (chosen_no _
    (ne_eqb _ _ c.if-state-eq-RUNNING.false) word)) c.put_stopped.ensures.put) in
    record { value = p.0; out_after = p.1; upper_bound = omega (arith, c.put_stopped.ensures.upper_bound) }

pub put_stopped-requires-2 : goal.put_stopped-requires-2
put_stopped-requires-2 c = let fits : leb (c.args.at + state_room) (length c.args.out.now) ≡ true =
    sym c.has_room.ensures ∙ c.if-not-has_room.false in
    let there : c.args.at + state_room ≤ length c.args.out.now = leb-true _ _ fits in
    omega (arith, there)

pub returns : goal.returns
unfolding state_text final_list
returns c = let fits : leb (c.args.at + state_room) (length c.args.out.now) ≡ true = sym c.has_room.ensures ∙ c.if-not-has_room.false in
    let word = chosen_no _ (ne_eqb _ _ c.if-state-eq-PRIME.false) refl in
    let p = fits_put state_room fits
    (put_as (chosen_no _ (ne_eqb _ _ c.if-state-eq-IDLE.false) (chosen_no _
    (ne_eqb _ _ c.if-state-eq-RUNNING.false) word)) c.put_stopped-2.ensures.put) in
    record { value = p.0; out_after = p.1; upper_bound = omega (arith, c.put_stopped-2.ensures.upper_bound) }

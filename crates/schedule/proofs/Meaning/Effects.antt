-- In a schedule no start and no carry is turned down by its call, and a forgery only for its burst: so that the schedule goes on
-- behind a call that was turned down is said of forged bursts alone, as document 01 says it.
use Rattle.std.specs.Prelude.{ℕ, ◌≡◌, Bool, List, drop}
use Rattle.std.proofs.Math.Path.{refl, sym, ap}
use Rattle.std.proofs.Common.{◌∙◌, subst}
use Rattle.std.proofs.Math.Bool.{true, false}
use borrow.Author.Tests.{eqb-true}
use Rattle.std.proofs.Math.Dec.{eqb}
use Rattle.limits.specs.Limits.{output_room}
use Rattle.lists.specs.Choice.{choose}
use Rattle.lists.specs.Choice.Laws.{choose_ind, choose_yes, choose_no, first_none}
use Rattle.hexadecimal.specs.Hex.{hex_bytes}
use Rattle.lines.specs.declared.event.Line.{Line}
use Rattle.lines.specs.declared.event.Line.TheVariants.{Start, Carry, Forge, Wrong}
use Rattle.lines.specs.Lines.{event_line}
use Rattle.lines.specs.Lines.Found.{EventFound, event_found}
use Rattle.protocol.specs.Steps.{output_refusal}
use Rattle.protocol.specs.Net.{Net, Pair, Event, starts, carry, forge, call, call_refusal, event_refusal, refusal, net_after, happens}
use Rattle.protocol.specs.Agreement.{Orderly}
use Rattle.protocol.proofs.Agreement.Besides.{orderly}
use Rattle.schedule.specs.Walk.{judged, event_step, line_step, next_line, repeat}
use Rattle.schedule.specs.Meaning.{Progress, onward, with_net, header, scheduled}
use Rattle.schedule.proofs.Meaning.Begins.{Whole, header_begins, begins_setting, begins_fresh}
use Rattle.schedule.proofs.Meaning.Continues.{Continues, lines_continue, lines_unrefused, proper_start, proper_carry, proper_forge}
use Rattle.schedule.specs.Meaning.Effects.{Effect, Effects, carried_out}

-- ---- one event
-- the output of a line's call is long enough
room_passed : output_refusal output_room ≡ 0
unfolding output_refusal choose
room_passed = refl

module _ (st : Progress) (e : Event) (next : ℕ) where
  abbrev number : ℕ
  number = event_refusal st.faulty st.net e

  refused_by_call : number ≡ 0 → refusal st.faulty st.net e ≡ call_refusal (call st.net e).answer
  unfolding refusal
  refused_by_call q = first_none _ q

  -- r is the number by which the call turns the event down
  call_effect : {r : ℕ} → refusal st.faulty st.net e ≡ r
      → with_net (happens st.faulty st.net e) (onward next st) ≡ choose (eqb r 0) (carried_out e next st) (onward next st)
  unfolding happens carried_out
  call_effect {r} q =
      ap (λ (k : ℕ). with_net (choose (eqb k 0) (net_after st.net e) st.net) (onward next st)) q
      ∙ choose_ind (λ (W : Net). with_net W (onward next st) ≡ choose (eqb r 0) (carried_out e next st) (onward next st)) (eqb r 0)
      (λ y. sym (choose_yes _ _ y)) (λ y. stays ∙ sym (choose_no _ _ y))
    where
      stays : with_net st.net (onward next st) ≡ onward next st
      stays = unfold with_net onward in refl

  event_effect : {r : ℕ} → (number ≡ 0 → call_refusal (call st.net e).answer ≡ r)
      → event_step scheduled e next st ≡ judged scheduled number st (choose (eqb r 0) (carried_out e next st) (onward next st))
  unfolding event_step judged
  event_effect {r} h = cases (eqb number 0) refl
    where
      cases : (x : Bool) → eqb number 0 ≡ x
          → judged scheduled number st (with_net (happens st.faulty st.net e) (onward next st))
          ≡ judged scheduled number st (choose (eqb r 0) (carried_out e next st) (onward next st))
      cases true q = let z = eqb-true number 0 q in ap (judged scheduled number st) (call_effect (refused_by_call z ∙ h z))
      cases false q = choose_no _ _ q ∙ sym (choose_no _ _ q)

module _ (st : Progress) (O : Orderly st.n st.t st.faulty st.net) where
  line_effect : (s : List ℕ) (p : ℕ) (x : Line) → EventFound st.n s p x → Effect s st x
  unfolding line_step
  line_effect s p (Start b next) found =
      event_effect st (starts b output_room)
      next (λ _. O.start_call_lem b output_room (proper_start st.n b output_room found.0) ∙ room_passed)
      ∙ (unfold event_refusal judged choose in refl)
  line_effect s p (Carry a b k next) found =
      let P = proper_carry st.n a b k output_room found.0 in
      event_effect st (carry a b k output_room) next (λ e. O.carry_call_lem a b k output_room P.0 P.1 P.2 e ∙ room_passed)
      ∙ (unfold choose in refl)
  line_effect s p (Forge a b at count next) found =
      let P = proper_forge st.n a b count output_room (drop at s) found.0 in
      event_effect st (forge a b (hex_bytes count (drop at s)) output_room) next
      (λ _. O.forge_call a b output_room (hex_bytes count (drop at s)) P.0 P.1 P.2 ∙ first_none _ room_passed)
  line_effect s p Wrong found = refl

-- ---- after any number of lines
orderly_from : (begin st : Progress) → Whole begin → Continues begin st → Orderly st.n st.t st.faulty st.net
orderly_from begin st B T =
    let o = orderly begin.n
    begin.t begin.faulty begin.net T.events (begins_setting begin B) (begins_fresh begin B) T.proper in
    subst (λ (n : ℕ). Orderly n st.t st.faulty st.net) (sym T.n)
    (subst (λ (t : ℕ). Orderly begin.n t st.faulty st.net) (sym T.t)
    (subst (λ (l : List Pair). Orderly begin.n begin.t l st.net) (sym T.faulty)
    (subst (λ (W : Net). Orderly begin.n begin.t begin.faulty W) T.net o)))

pub effects : Effects
effects s k e =
    let st = repeat k (next_line scheduled s) (header s) in
    line_effect
    st (orderly_from (header s) st (header_begins s (lines_unrefused s (header s) k e)) (lines_continue s (header s) k e)) s st.at
    (event_line st.n s st.at) (event_found st.n s st.at)

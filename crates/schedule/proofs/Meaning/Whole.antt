-- A schedule that is not turned down is read to its end: every line takes a byte at least, so as many lines as there are bytes are enough.
use Rattle.std.specs.Prelude.{ℕ, zero, suc, ◌≤◌, ◌<◌, List, ◌⊎◌, leb, length, drop}
use Rattle.std.proofs.Common.{inl, inr, arith, leb-true, leb-false}
use Rattle.limits.specs.Limits.{output_room}
use Rattle.lists.specs.Choice.Laws.{choose_ind}
use Rattle.hexadecimal.specs.Hex.{hex_bytes}
use Rattle.lines.specs.declared.event.Line.{Line}
use Rattle.lines.specs.declared.event.Line.TheVariants.{Start, Carry, Forge, Wrong}
use Rattle.lines.specs.Lines.{event_line}
use Rattle.lines.specs.Lines.Found.{EventFound, event_found}
use Rattle.protocol.specs.Net.{Event, starts, carry, forge, event_refusal, happens}
use Rattle.schedule.specs.Walk.{lines_walk, event_step, line_step, next_line, repeat}
use Rattle.schedule.specs.Meaning.{Progress, onward, with_net, whole_schedule, header, scheduled}
use Rattle.schedule.proofs.Walk.Laws.{Unrefused}
use Rattle.schedule.proofs.Meaning.Laws.{refuse_unrefused, judged_unrefused, unless_unrefused}

-- the next line begins at k or further on, or the text is at its end
abbrev Reaches : List ℕ → ℕ → Progress → Type 0
Reaches s k st = (k ≤ st.at) ⊎ (length s ≤ st.at)

there : (s : List ℕ) (k : ℕ) (st : Progress) (e : Event) (next : ℕ)
    → suc k ≤ next → Reaches s (suc k) (with_net (happens st.faulty st.net e) (onward next st))
unfolding with_net onward
there s k st e next h = inl h

event_reaches : (s : List ℕ) (k : ℕ) (st : Progress) (e : Event) (next : ℕ)
    → suc k ≤ next → Unrefused scheduled (Reaches s (suc k)) (event_step scheduled e next st)
unfolding event_step
event_reaches s k st e next h =
    judged_unrefused (Reaches s (suc k)) (event_refusal st.faulty st.net e)
    st (with_net (happens st.faulty st.net e) (onward next st)) (λ _ _. there s k st e next h)

line_reaches : (s : List ℕ) (k : ℕ) (st : Progress) (x : Line)
    → k ≤ st.at → EventFound st.n s st.at x → Unrefused scheduled (Reaches s (suc k)) (line_step scheduled s x st)
unfolding line_step
line_reaches s k st (Start b next) h found = event_reaches s k st (starts b output_room) next (omega (arith, found.1))
line_reaches s k st (Carry a b j next) h found = event_reaches s k st (carry a b j output_room) next (omega (arith, found.1.1))
line_reaches s k st (Forge a b at count next) h found =
    event_reaches s k st (forge a b (hex_bytes count (drop at s)) output_room) next (omega (arith, found.1.1.1))
line_reaches s k st Wrong h found = refuse_unrefused (Reaches s (suc k)) 13 st (λ e. omega arith)

next_reaches : (s : List ℕ) (k : ℕ) (st : Progress) → Unrefused scheduled (Reaches s k) st
    → Unrefused scheduled (Reaches s (suc k)) (next_line scheduled s st)
unfolding next_line
next_reaches s k st before =
    unless_unrefused (Reaches s (suc k)) st _ (λ none.
    choose_ind (Unrefused scheduled (Reaches s (suc k))) (leb (length s) st.at) (λ e _. inr (leb-true (length s) st.at e))
    (λ e. go (before none) (leb-false (length s) st.at e)))
  where
    go : Reaches s k st → st.at < length s
        → Unrefused scheduled (Reaches s (suc k)) (line_step scheduled s (event_line st.n s st.at) st)
    go (inl h) l = line_reaches s k st (event_line st.n s st.at) h (event_found st.n s st.at)
    go (inr h) l = absurd (omega arith)

repeat_reaches : (s : List ℕ) (k : ℕ) (st : Progress) → Unrefused scheduled (Reaches s k) (repeat k (next_line scheduled s) st)
unfolding repeat
repeat_reaches s zero st = λ _. inl (omega arith)
repeat_reaches s (suc k) st = next_reaches s k (repeat k (next_line scheduled s) st) (repeat_reaches s k st)

pub whole_read : (s : List ℕ) → Unrefused scheduled (λ st. length s ≤ st.at) (whole_schedule s)
unfolding lines_walk
whole_read s e = go (repeat_reaches s (length s) (header s) e)
  where
    go : Reaches s (length s) (repeat (length s) (next_line scheduled s) (header s))
        → length s ≤ (repeat (length s) (next_line scheduled s) (header s)).at
    go (inl h) = h
    go (inr h) = h

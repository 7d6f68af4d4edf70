-- In a schedule no start and no carry is turned down by its call, and a forgery only for its burst: so that the schedule goes on
-- behind a call that was turned down is said of forged bursts alone, as document 01 says it.
use Rattle.std.specs.Prelude.{ℕ, ◌≡◌, List, drop}
use Rattle.std.proofs.Math.Dec.{eqb}
use Rattle.limits.specs.Limits.{output_room}
use Rattle.lists.specs.Choice.{choose}
use Rattle.frame.specs.Reading.{burst_refusal}
use Rattle.hexadecimal.specs.Hex.{hex_bytes}
use Rattle.lines.specs.declared.event.Line.{Line}
use Rattle.lines.specs.declared.event.Line.TheVariants.{Start, Carry, Forge, Wrong}
use Rattle.lines.specs.Lines.{event_line}
use Rattle.protocol.specs.Net.{Event, starts, carry, forge, event_refusal, refusal, net_after}
use Rattle.schedule.specs.Walk.{judged, line_step, next_line, repeat}
use Rattle.schedule.specs.Meaning.{Progress, refuse, onward, with_net, header, scheduled}

-- the next line begins at `next`, and the event has been carried out
unfoldable pub carried_out : Event → ℕ → Progress → Progress
carried_out e next st = with_net (net_after st.net e) (onward next st)

-- what a line does: a start is carried out; a carry that 16 and 17 let pass is; a forgery that 18 lets pass is, if its burst is not
-- turned down (7 to 12)
abbrev pub Effect : List ℕ → Progress → Line → Type 0
Effect s st (Start b next) = line_step scheduled s (Start b next) st ≡ carried_out (starts b output_room) next st
Effect s st (Carry a b k next) =
    line_step scheduled s (Carry a b k next) st
    ≡ judged scheduled (event_refusal st.faulty st.net (carry a b k output_room)) st (carried_out (carry a b k output_room) next st)
Effect s st (Forge a b at count next) =
    let bytes = hex_bytes count (drop at s) in
    line_step scheduled s (Forge a b at count next) st
    ≡ judged scheduled (event_refusal st.faulty st.net (forge a b bytes output_room)) st
    (choose (eqb (burst_refusal st.n bytes) 0) (carried_out (forge a b bytes output_room) next st) (onward next st))
Effect s st Wrong = line_step scheduled s Wrong st ≡ refuse 13 st

-- the statement: of the next line, after any number of lines of events
abbrev pub Effects : Type 0
Effects = (s : List ℕ) (k : ℕ) →
    let st = repeat k (next_line scheduled s) (header s) in
    st.refusal ≡ 0 → Effect s st (event_line st.n s st.at)

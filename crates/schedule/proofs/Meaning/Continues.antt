-- The lines of a schedule's events tell a history of the net: proper events that happen one after another from the net at the beginning.
use Rattle.std.specs.Prelude.{ℕ, ◌≡◌, refl, true, List, [], ◌∷◌, ◌++◌, leb, ltb, length, drop}
use Rattle.std.proofs.Common.{sym, ap, ◌∙◌, subst, arith}
use Rattle.limits.specs.Limits.{output_room, longest_schedule}
use Rattle.lists.specs.Choice.Laws.{choose_ind}
use Rattle.hexadecimal.specs.Hex.{hex_bytes}
use Rattle.hexadecimal.specs.Hex.Range.{bytes_below}
use Rattle.lines.specs.declared.event.Line.{Line}
use Rattle.lines.specs.declared.event.Line.TheVariants.{Start, Carry, Forge, Wrong}
use Rattle.lines.specs.Lines.{is_base, two_bases, event_line}
use Rattle.lines.specs.Lines.Laws.{net_base_range, two_range}
use Rattle.lines.specs.Lines.Found.{EventFound, event_found}
use Rattle.protocol.specs.Net.{Net, Pair, Event, starts, carry, forge, event_refusal, happens, run}
use Rattle.protocol.specs.Agreement.{BaseOf, Proper, AllProper}
use Rattle.protocol.proofs.Agreement.Longer.{run_more, proper_more}
use Rattle.schedule.specs.Walk.{lines_walk, walk, event_step, line_step, next_line, repeat}
use Rattle.schedule.specs.Meaning.{Progress, refuse, onward, with_net, whole_schedule, header, meaning, scheduled}
use Rattle.schedule.proofs.Meaning.Laws.{refuse_unrefused, judged_unrefused, unless_ind, unless_unrefused}
use Rattle.schedule.proofs.Walk.Laws.{Unrefused, repeat_ind}

-- ---- the events of lines are proper
base_of : (n b : ℕ) → is_base n b ≡ true → BaseOf n b
base_of n b e = let p = net_base_range n b e in record { least = p.0; most = p.1 }

pub proper_start : (n b room : ℕ) → is_base n b ≡ true → Proper n (starts b room)
proper_start n b room e = base_of n b e

pub proper_carry : (n a b k room : ℕ) → two_bases n a b ≡ true → Proper n (carry a b k room)
proper_carry n a b k room e = let p = two_range n a b e in (base_of n a p.0, base_of n b p.1.0, p.1.1)

pub proper_forge : (n a b count room : ℕ) (rest : List ℕ) → two_bases n a b ≡ true → Proper n (forge a b (hex_bytes count rest) room)
proper_forge n a b count room rest e = let p = two_range n a b e in
    (base_of n a p.0, base_of n b p.1.0, p.1.1, bytes_below count rest)

-- ---- lines that go on from a header
pub record Continues (begin st : Progress) : Type 0 where
  pub n : st.n ≡ begin.n
  pub t : st.t ≡ begin.t
  pub faulty : st.faulty ≡ begin.faulty
  pub events : List Event
  pub proper : AllProper begin.n events
  pub net : run begin.faulty begin.net events ≡ st.net

continues_none : (begin : Progress) → Continues begin begin
unfolding run
continues_none begin = record { n = refl; t = refl; faulty = refl; events = []; proper = tt; net = refl }

continues_more : (begin st : Progress) (e : Event) (next : ℕ)
    → Proper st.n e → Continues begin st → Continues begin (with_net (happens st.faulty st.net e) (onward next st))
unfolding with_net onward
continues_more begin st e next p T = record {
  n = T.n;
  t = T.t;
  faulty = T.faulty;
  events = T.events ++ (e ∷ []);
  proper = proper_more begin.n T.events e T.proper (subst (λ (k : ℕ). Proper k e) T.n p);
  net = run_more begin.faulty begin.net T.events e
      ∙ ap (λ (W : Net). happens begin.faulty W e) T.net ∙ ap (λ (f : List Pair). happens f st.net e) (sym T.faulty);
}

event_continues : (begin st : Progress) (e : Event) (next : ℕ)
    → Proper st.n e → Continues begin st → Unrefused scheduled (Continues begin) (event_step scheduled e next st)
unfolding event_step
event_continues begin st e next p T =
    judged_unrefused (Continues begin) (event_refusal st.faulty st.net e)
    st (with_net (happens st.faulty st.net e) (onward next st)) (λ _ _. continues_more begin st e next p T)

line_continues : (s : List ℕ) (begin st : Progress) (p : ℕ) (x : Line)
    → EventFound st.n s p x → Continues begin st → Unrefused scheduled (Continues begin) (line_step scheduled s x st)
unfolding line_step
line_continues s begin st p (Start b next) found T =
    event_continues begin st (starts b output_room) next (proper_start st.n b output_room found.0) T
line_continues s begin st p (Carry a b k next) found T =
    event_continues begin st (carry a b k output_room) next (proper_carry st.n a b k output_room found.0) T
line_continues s begin st p (Forge a b at count next) found T =
    event_continues begin st (forge a b (hex_bytes count (drop at s)) output_room)
    next (proper_forge st.n a b count output_room (drop at s) found.0) T
line_continues s begin st p Wrong found T = refuse_unrefused (Continues begin) 13 st (λ e. omega arith)

pub next_continues : (s : List ℕ) (begin st : Progress)
    → Unrefused scheduled (Continues begin) st → Unrefused scheduled (Continues begin) (next_line scheduled s st)
unfolding next_line
next_continues s begin st before =
    unless_unrefused (Continues begin) st _ (λ none.
    choose_ind (Unrefused scheduled (Continues begin)) (leb (length s) st.at) (λ _. before)
    (λ _. line_continues s begin st st.at (event_line st.n s st.at) (event_found st.n s st.at) (before none)))

-- ---- many lines
pub lines_continue : (s : List ℕ) (begin : Progress) (k : ℕ)
    → Unrefused scheduled (Continues begin) (repeat k (next_line scheduled s) begin)
lines_continue s begin k =
    repeat_ind (Unrefused scheduled (Continues begin))
    (next_line scheduled s) (λ st p. next_continues s begin st p) k begin (λ _. continues_none begin)

-- a line that is turned down stays so
next_unrefused : (s : List ℕ) (st : Progress) → (next_line scheduled s st).refusal ≡ 0 → st.refusal ≡ 0
unfolding next_line
next_unrefused s st = unless_ind (λ x. x.refusal ≡ 0 → st.refusal ≡ 0) st _ (λ e _. e) (λ _ e. e)

pub lines_unrefused : (s : List ℕ) (begin : Progress) (k : ℕ) → (repeat k (next_line scheduled s) begin).refusal ≡ 0 → begin.refusal ≡ 0
lines_unrefused s begin k =
    repeat_ind (λ x. x.refusal ≡ 0 → begin.refusal ≡ 0)
    (next_line scheduled s) (λ st before e. before (next_unrefused s st e)) k begin (λ e. e)

-- ---- the whole schedule
pub whole_continues : (s : List ℕ) → Unrefused scheduled (Continues (header s)) (whole_schedule s)
unfolding lines_walk
whole_continues s = lines_continue s (header s) (length s)

pub header_unrefused : (s : List ℕ) → (whole_schedule s).refusal ≡ 0 → (header s).refusal ≡ 0
unfolding lines_walk
header_unrefused s = lines_unrefused s (header s) (length s)

pub meaning_whole : (s : List ℕ) → (meaning s).refusal ≡ 0 → meaning s ≡ whole_schedule s
unfolding walk refuse
meaning_whole s =
    choose_ind (λ x. x.refusal ≡ 0 → x ≡ whole_schedule s) (ltb longest_schedule (length s)) (λ _ e. absurd (omega arith)) (λ _ _. refl)

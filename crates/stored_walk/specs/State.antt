-- What the program keeps while it walks over a schedule (`schedule/specs/Walk`): its own net for the net that a schedule means.
-- While it reads the header it keeps that alone; the net is the one that the header gives (`begun_net`).
use Rattle.std.specs.Prelude.{ℕ, ◌+◌, ◌*◌, ◌-◌, ◌^◌, ◌≤◌, Bool, List, ◌++◌, eqb, leb, ltb, length, drop}
use Rattle.limits.specs.Limits.{most_bases, output_room, longest_forgery}
use Rattle.lists.specs.Choice.{choose, and}
use Rattle.hexadecimal.specs.Hex.{hex_bytes}
use Rattle.lines.specs.declared.event.Line.{Line}
use Rattle.lines.specs.declared.event.Line.TheVariants.{Start, Carry, Forge, Wrong}
use Rattle.protocol.specs.Net.{good, starts, carry, forge, waiting}
use Rattle.faulty_links.specs.declared.Faulty.{Faulty}
use Rattle.net.specs.declared.Header.{Header}
use Rattle.net.specs.declared.StoredNet.{StoredNet}
use Rattle.net.specs.Abstraction.{net_of, faulty_of, size}
use Rattle.net.specs.Header.{made_net, named_net, marked_net}
use Rattle.schedule.specs.Header.{id_refusal, faulty_refusal}
use Rattle.events.specs.Events.{Moved, moved}
use Rattle.schedule.specs.Walk.{Walkable, judged, next_line}
use Rattle.schedule.specs.Report.{base_lines, waiting_line, refused_line}
pub mod Laws
pub mod Begun
pub mod Walked

-- a line's number has a next one
abbrev pub most_lines : ℕ
most_lines = 2 ^ 64 - 2

-- n and t are bytes
abbrev most_of_byte : ℕ
most_of_byte = 2 ^ 8 - 1

-- the number of the line behind `net n t` and `id b v` for b = 1 to n, at most
abbrev pub most_named_line : ℕ
most_named_line = 2 + most_of_byte

-- the number of the line behind the header, at most: `faulty a b` is looked for t + 1 times
abbrev pub most_header_line : ℕ
most_header_line = most_named_line + most_of_byte + 1

-- ---- one line more
-- nothing is read yet, and there is no base
abbrev pub unread_net : StoredNet
unread_net = made_net 0 0 0 1

unfoldable pub refused_net : ℕ → StoredNet → StoredNet
refused_net r p = record { n = p.n; t = p.t; faulty = p.faulty; nodes = p.nodes; at = p.at; line = p.line; refusal = r }

-- the next line makes a net of p, and another begins behind it
unfoldable pub onward_net : StoredNet → StoredNet → ℕ → StoredNet
onward_net p net next = record {
  n = net.n;
  t = net.t;
  faulty = net.faulty;
  nodes = net.nodes;
  at = next;
  line = p.line + 1;
  refusal = p.refusal;
}

abbrev pub onward_header : Header → List ℕ → Faulty → ℕ → Header
onward_header h ids faulty next =
    record { n = h.n; t = h.t; ids = ids; faulty = faulty; at = next; line = h.line + 1; refusal = h.refusal }

-- ---- the walk
abbrev pub replaying : Walkable StoredNet
replaying = record {
  begin = unread_net;
  at = λ p. p.at;
  refusal = λ p. p.refusal;
  refuse = refused_net;
  n = λ p. p.n;
  t = λ p. p.t;
  sized = λ n t next p. made_net n t next (p.line + 1);
  id_number = λ v p. id_refusal (net_of p) v;
  named = λ b v next p. onward_net p (named_net p b v) next;
  marked = λ a b next p. onward_net p (marked_net p a b) next;
  is_good = λ a b p. good (faulty_of p) a b;
  faulty_number = λ p. faulty_refusal p.t (faulty_of p);
  event_number = λ e p. (moved p e).refusal;
  happened = λ e next p. onward_net p (moved p e).net next;
}

-- ---- a line of events, as the program takes it: what it does to the net, and where the next line begins
unfoldable pub advanced : StoredNet → Moved → ℕ → StoredNet
advanced p m next = judged replaying m.refusal p (onward_net p m.net next)

-- the net, and the number by which a line is turned down
unfoldable pub line_moved : List ℕ → StoredNet → Line → Moved
line_moved s net (Start b next) = moved net (starts b output_room)
line_moved s net (Carry a b k next) = moved net (carry a b k output_room)
line_moved s net (Forge a b at count next) = moved net (forge a b (hex_bytes count (drop at s)) output_room)
line_moved s net Wrong = record { refusal = 13; net = net }

unfoldable pub next_of : Line → ℕ
next_of (Start b next) = next
next_of (Carry a b k next) = next
next_of (Forge a b at count next) = next
next_of Wrong = 0

-- the bytes of a forgery stand in the text
abbrev pub HasBytes : List ℕ → Line → Type 0
HasBytes s (Start b next) = Unit {0}
HasBytes s (Carry a b k next) = Unit {0}
HasBytes s (Forge a b at count next) = (count ≤ longest_forgery) × (2 * count ≤ length (drop at s))
HasBytes s Wrong = Unit {0}

unfoldable pub report_net : StoredNet → List ℕ
report_net p =
    choose (eqb p.refusal 0)
    (base_lines p.n (net_of p) ++ waiting_line (waiting (size p) (faulty_of p) (net_of p)))
    (refused_line p.refusal p.line)

-- ---- one line by itself
-- whether a line can follow in a text of that length
unfoldable pub goes_on : ℕ → ℕ → ℕ → ℕ → ℕ → Bool
goes_on length n at line refusal = and (eqb refusal 0) (and (ltb at length) (and (leb n most_bases) (leb line most_lines)))

-- a line more, of a net that a header can give; any other is left alone
unfoldable pub line_after : List ℕ → StoredNet → StoredNet
line_after s p = choose (and (leb p.n most_bases) (leb p.line most_lines)) (next_line replaying s p) p

-- The walk over a schedule (document 01, "The replay program"): its lines one after another, to the end or to the first line that
-- is turned down. It is defined once, over whatever is kept on the way: the net that a schedule means (`Meaning`), or the net that
-- the program stores.
use Rattle.std.specs.Prelude.{ℕ, zero, suc, Bool, not, List, eqb, ltb, leb, length, drop}
use Rattle.limits.specs.Limits.{output_room, longest_schedule}
use Rattle.limits.specs.Refusals.{size_refusal}
use Rattle.lists.specs.Choice.{choose}
use Rattle.hexadecimal.specs.Hex.{hex_bytes}
use Rattle.lines.specs.declared.event.Line.{Line}
use Rattle.lines.specs.declared.event.Line.TheVariants.{Start, Carry, Forge, Wrong}
use Rattle.lines.specs.Lines.{after_number, after_two, net_line, id_line, faulty_line, event_line}
use Rattle.protocol.specs.Net.{Event, starts, carry, forge}

-- what a walk asks of that which it keeps, and does to it
pub record Walkable (P : Type 0) : Type 0 where
  -- nothing is read yet, and there is no base
  pub begin : P
  -- where the next line begins, and the number by which it is turned down; 0 for none
  pub at : P → ℕ
  pub refusal : P → ℕ
  pub refuse : ℕ → P → P
  -- "n bases", "t"
  pub n : P → ℕ
  pub t : P → ℕ
  -- each of the lines below with the position behind it
  -- `net n t`
  pub sized : ℕ → ℕ → ℕ → P → P
  -- `id b v`, and the number by which v is turned down
  pub id_number : ℕ → P → ℕ
  pub named : ℕ → ℕ → ℕ → P → P
  -- `faulty a b`; whether the link is good so far; and the number by which one faulty link more is turned down
  pub marked : ℕ → ℕ → ℕ → P → P
  pub is_good : ℕ → ℕ → P → Bool
  pub faulty_number : P → ℕ
  -- an event, and the number by which it is turned down
  pub event_number : Event → P → ℕ
  pub happened : Event → ℕ → P → P

-- so many times
unfoldable pub repeat : {P : Type 0} → ℕ → (P → P) → P → P
repeat zero f p = p
repeat (suc k) f p = f (repeat k f p)

module _ {P : Type 0} (K : Walkable P) where
  -- a line that is turned down by r changes nothing; else the schedule goes on
  unfoldable pub judged : ℕ → P → P → P
  judged r before after = choose (eqb r 0) after (K.refuse r before)

  -- after a line that was turned down no line is read
  unfoldable pub unless_refused : P → P → P
  unless_refused p next = choose (eqb (K.refusal p) 0) next p

  -- ---- "`net n t`"
  -- "A line's form comes before its other checks": number 13, then 1 and 2
  unfoldable pub net_step : List ℕ → P → P
  net_step s p = after_two (net_line s (K.at p)) (K.refuse 13 p) (λ n t next. judged (size_refusal n t) p (K.sized n t next p))

  -- ---- "then `id b v` for b = 1 to n"
  -- 13, then 3 and 14
  unfoldable pub id_step : List ℕ → ℕ → P → P
  id_step s b p =
      unless_refused p
      (after_number (id_line b s (K.at p)) (K.refuse 13 p) (λ v next. judged (K.id_number v p) p (K.named b v next p)))

  unfoldable pub id_steps : List ℕ → ℕ → P → P
  id_steps s zero p = p
  id_steps s (suc b) p = id_step s (suc b) (id_steps s b p)

  -- ---- "then `faulty a b` (a < b, none twice)"
  unfoldable pub mark_step : ℕ → ℕ → ℕ → P → P
  mark_step a b next p = choose (not (K.is_good a b p)) (K.refuse 13 p) (judged (K.faulty_number p) p (K.marked a b next p))

  -- 13, then 15; any other line is left for the events
  unfoldable pub faulty_step : List ℕ → P → P
  faulty_step s p = unless_refused p (after_two (faulty_line (K.n p) s (K.at p)) p (λ a b next. mark_step a b next p))

  -- ---- "then, in any order, `start b`, `carry a b k` [..], `forge a b hex`"
  -- 16 to 18; "refusals of its burst leave the schedule running": a forgery that the base's call turns down changes nothing
  unfoldable pub event_step : Event → ℕ → P → P
  event_step e next p = judged (K.event_number e p) p (K.happened e next p)

  -- 13 before them
  unfoldable pub line_step : List ℕ → Line → P → P
  line_step s (Start b next) p = event_step (starts b output_room) next p
  line_step s (Carry a b k next) p = event_step (carry a b k output_room) next p
  line_step s (Forge a b at count next) p = event_step (forge a b (hex_bytes count (drop at s)) output_room) next p
  line_step s Wrong p = K.refuse 13 p

  -- at the text's end there is no line more
  unfoldable pub next_line : List ℕ → P → P
  next_line s p = unless_refused p (choose (leb (length s) (K.at p)) p (line_step s (event_line (K.n p) s (K.at p)) p))

  -- ---- the whole schedule
  -- at most t links are faulty, and one line more is turned down
  unfoldable pub header_walk : List ℕ → P
  header_walk s =
      let sized = net_step s K.begin in
      let named = id_steps s (K.n sized) sized in
      repeat (suc (K.t named)) (faulty_step s) named

  -- a line has one byte at least
  unfoldable pub lines_walk : List ℕ → P
  lines_walk s = repeat (length s) (next_line s) (header_walk s)

  -- "A schedule exceeds 65,536 bytes (line 1 is named)"
  unfoldable pub walk : List ℕ → P
  walk s = choose (ltb longest_schedule (length s)) (K.refuse 13 K.begin) (lines_walk s)

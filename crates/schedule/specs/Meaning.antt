-- What a schedule means (document 01, "The replay program"): the walk over its lines, from the net at the beginning to the net at
-- the end, or to the first line that is turned down.
use Rattle.std.specs.Prelude.{ℕ, ◌+◌, List, [], ◌∷◌, ◌++◌}
use Rattle.protocol.specs.Sound.{idle_base}
use Rattle.protocol.specs.Net.{Net, Pair, good, event_refusal, happens, replaced}
use Rattle.protocol.specs.Agreement.Premise.{idle_net}
use Rattle.schedule.specs.Header.{id_refusal, faulty_refusal}
use Rattle.schedule.specs.Walk.{Walkable, header_walk, lines_walk, walk}
pub mod Begins
pub mod Effects

-- how far a schedule has been read
pub record Progress : Type 0 where
  -- where the next line begins, and its number
  pub at : ℕ
  pub line : ℕ
  -- the number by which that line is turned down; 0 for none
  pub refusal : ℕ
  -- the net: "n bases", "t", the links named faulty, and its state
  pub n : ℕ
  pub t : ℕ
  pub faulty : List Pair
  pub net : Net

-- nothing is read yet, and there is no base
unfoldable pub unread : Progress
unread = record { at = 0; line = 1; refusal = 0; n = 0; t = 0; faulty = []; net = idle_net 0 0 (λ b. 0) }

-- ---- one line more
unfoldable pub refuse : ℕ → Progress → Progress
refuse r st = record { at = st.at; line = st.line; refusal = r; n = st.n; t = st.t; faulty = st.faulty; net = st.net }

-- the next line begins at position p
unfoldable pub onward : ℕ → Progress → Progress
onward p st = record { at = p; line = st.line + 1; refusal = st.refusal; n = st.n; t = st.t; faulty = st.faulty; net = st.net }

unfoldable pub with_size : ℕ → ℕ → Progress → Progress
with_size n t st =
    record { at = st.at; line = st.line; refusal = st.refusal; n = n; t = t; faulty = st.faulty; net = idle_net n t (λ b. 0) }

unfoldable pub with_id : ℕ → ℕ → Progress → Progress
with_id b v st = record {
  at = st.at;
  line = st.line;
  refusal = st.refusal;
  n = st.n;
  t = st.t;
  faulty = st.faulty;
  net = record { base = replaced b (idle_base st.n st.t v) st.net.base; log = st.net.log; carried = st.net.carried };
}

unfoldable pub with_faulty : ℕ → ℕ → Progress → Progress
with_faulty a b st = record {
  at = st.at;
  line = st.line;
  refusal = st.refusal;
  n = st.n;
  t = st.t;
  faulty = st.faulty ++ (record { one = a; other = b } ∷ []);
  net = st.net;
}

unfoldable pub with_net : Net → Progress → Progress
with_net W st = record { at = st.at; line = st.line; refusal = st.refusal; n = st.n; t = st.t; faulty = st.faulty; net = W }

-- ---- the walk
-- a forgery that the base's call turns down changes nothing, as `happens` says
abbrev pub scheduled : Walkable Progress
scheduled = record {
  begin = unread;
  at = λ st. st.at;
  refusal = λ st. st.refusal;
  refuse = refuse;
  n = λ st. st.n;
  t = λ st. st.t;
  sized = λ n t next st. with_size n t (onward next st);
  id_number = λ v st. id_refusal st.net v;
  named = λ b v next st. with_id b v (onward next st);
  marked = λ a b next st. with_faulty a b (onward next st);
  is_good = λ a b st. good st.faulty a b;
  faulty_number = λ st. faulty_refusal st.t st.faulty;
  event_number = λ e st. event_refusal st.faulty st.net e;
  happened = λ e next st. with_net (happens st.faulty st.net e) (onward next st);
}

abbrev pub header : List ℕ → Progress
header s = header_walk scheduled s

abbrev pub whole_schedule : List ℕ → Progress
whole_schedule s = lines_walk scheduled s

abbrev pub meaning : List ℕ → Progress
meaning s = walk scheduled s

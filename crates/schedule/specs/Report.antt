-- The report of a schedule (document 01, "The replay program").
use Rattle.std.specs.Prelude.{ℕ, zero, suc, ◌+◌, ◌*◌, List, [], ◌∷◌, ◌++◌, eqb, ltb, length}
use Rattle.limits.specs.Limits.{most_bases}
use Rattle.lists.specs.Choice.{choose}
use Rattle.print.specs.Decimal.{field_text}
use Rattle.frame.specs.Encoding.{over}
use Rattle.lines.specs.Lines.{space, line_feed}
use Rattle.protocol.specs.declared.Base.{Base}
use Rattle.protocol.specs.Record.{final_list}
use Rattle.protocol.specs.Steps.{leader_of}
use Rattle.protocol.specs.Net.{Net, waiting}
use Rattle.schedule.specs.Meaning.{Progress, meaning}

-- ---- the states of a base: "idle (0), running (1), prime (2) or secondary (3)"
abbrev pub idle_state : ℕ
idle_state = 0

abbrev pub running_state : ℕ
running_state = 1

abbrev pub prime_state : ℕ
prime_state = 2

-- ---- words
-- `base `
abbrev pub base_text : List ℕ
base_text = 98 ∷ 97 ∷ 115 ∷ 101 ∷ space ∷ []

-- ` idle`
abbrev pub idle_text : List ℕ
idle_text = space ∷ 105 ∷ 100 ∷ 108 ∷ 101 ∷ []

-- ` running`
abbrev pub running_text : List ℕ
running_text = space ∷ 114 ∷ 117 ∷ 110 ∷ 110 ∷ 105 ∷ 110 ∷ 103 ∷ []

-- ` prime`
abbrev pub prime_text : List ℕ
prime_text = space ∷ 112 ∷ 114 ∷ 105 ∷ 109 ∷ 101 ∷ []

-- ` secondary`
abbrev pub secondary_text : List ℕ
secondary_text = space ∷ 115 ∷ 101 ∷ 99 ∷ 111 ∷ 110 ∷ 100 ∷ 97 ∷ 114 ∷ 121 ∷ []

-- ` leader `
abbrev pub leader_text : List ℕ
leader_text = space ∷ 108 ∷ 101 ∷ 97 ∷ 100 ∷ 101 ∷ 114 ∷ space ∷ []

-- `waiting `
abbrev pub waiting_text : List ℕ
waiting_text = 119 ∷ 97 ∷ 105 ∷ 116 ∷ 105 ∷ 110 ∷ 103 ∷ space ∷ []

-- `refused `
abbrev pub refused_text : List ℕ
refused_text = 114 ∷ 101 ∷ 102 ∷ 117 ∷ 115 ∷ 101 ∷ 100 ∷ space ∷ []

-- ` line `
abbrev pub line_text : List ℕ
line_text = space ∷ 108 ∷ 105 ∷ 110 ∷ 101 ∷ space ∷ []

abbrev pub feed : List ℕ
feed = line_feed ∷ []

-- ---- one line a base
-- each identifier behind a space
unfoldable pub list_text : List ℕ → List ℕ
list_text [] = []
list_text (v ∷ l) = field_text (space ∷ []) v ++ list_text l

-- ` 300 500 leader 500`
unfoldable pub final_text : List ℕ → List ℕ
final_text l = list_text l ++ field_text leader_text (leader_of l)

-- "A secondary base prints `secondary` for `prime`. A base that has not stopped prints `base 3 running` or `base 3 idle`, with no list."
unfoldable pub state_text : Base → List ℕ
state_text b =
    choose (eqb b.state idle_state) idle_text
    (choose (eqb b.state running_state) running_text
    (choose (eqb b.state prime_state) (prime_text ++ final_text (final_list b))
    (secondary_text ++ final_text (final_list b))))

-- "one line a base [..] (state, final list, leader)"
unfoldable pub base_line : ℕ → Base → List ℕ
base_line number b = (field_text base_text number ++ state_text b) ++ feed

-- "in order of number": the bases 1 to k
unfoldable pub base_lines : ℕ → Net → List ℕ
base_lines zero W = []
base_lines (suc k) W = base_lines k W ++ base_line (suc k) (W.base (suc k))

-- ---- the report
-- "then `waiting` with the number of broadcasts times receivers on good links not yet carried"
unfoldable pub waiting_line : ℕ → List ℕ
waiting_line count = field_text waiting_text count ++ feed

-- "The first refused line prints only `refused N line L`."
unfoldable pub refused_line : ℕ → ℕ → List ℕ
refused_line number line = (field_text refused_text number ++ field_text line_text line) ++ feed

unfoldable pub report_of : Progress → List ℕ
report_of st =
    choose (eqb st.refusal 0)
    (base_lines st.n st.net ++ waiting_line (waiting st.n st.faulty st.net))
    (refused_line st.refusal st.line)

unfoldable pub report : List ℕ → List ℕ
report s = report_of (meaning s)

-- ---- in an output
-- the digits of the largest identifier, 4294967295
abbrev pub identifier_digits : ℕ
identifier_digits = 10

-- the digits of the largest number of a base that a byte holds, 255
abbrev pub number_digits : ℕ
number_digits = 3

-- room for any identifier behind its space
abbrev pub identifier_room : ℕ
identifier_room = 1 + identifier_digits

-- room for any final list and its leader
abbrev pub final_room : ℕ
final_room = identifier_room * most_bases + length leader_text + identifier_digits

-- room for any state: the longest word, and a final list
abbrev pub state_room : ℕ
state_room = length secondary_text + final_room

-- room for any line: the longest is that of a base
abbrev pub line_room : ℕ
line_room = length base_text + number_digits + state_room + length feed

-- room for any report: a line a base, and `waiting`
abbrev pub report_room : ℕ
report_room = (most_bases + 1) * line_room

-- an output with less room is left alone, and the length is 0
unfoldable pub replay_length : List ℕ → List ℕ → ℕ
replay_length s out = choose (ltb (length out) report_room) 0 (length (report s))

-- the report at the front, and the rest as it was
unfoldable pub replay_output : List ℕ → List ℕ → List ℕ
replay_output s out = choose (ltb (length out) report_room) out (over (report s) out)

-- What the report of a schedule says, by agreement (demand 3), as a statement about its bytes: of every schedule that is not
-- refused, the line of each base that has stopped is the line with the true identifiers sorted and the one leader, that of any other
-- base says `idle` or `running`, and the last says how much waits; and `waiting 0` with no line `idle` leaves no line `running`.
use Rattle.std.specs.Prelude.{ℕ, suc, ◌-◌, ◌≡◌, ◌≢◌, true, false, List, [], ◌∷◌, ◌++◌, eqb, length, get_or}
use Rattle.lists.specs.Choice.{choose}
use Rattle.lists.specs.Lists.{sort}
use Rattle.print.specs.Decimal.{field_text}
use Rattle.lines.specs.Lines.{line_feed}
use Rattle.protocol.specs.Steps.{leader_of}
use Rattle.protocol.specs.Net.{Net, Pair, has_stopped, waiting}
use Rattle.protocol.specs.Agreement.{BaseOf, true_identifiers}
use Rattle.schedule.specs.Meaning.{header, meaning}
use Rattle.schedule.specs.Report.{
  base_text,
  idle_text,
  running_text,
  prime_text,
  secondary_text,
  list_text,
  leader_text,
  waiting_text,
  refused_line,
  report,
}

-- ---- the lines of a text, each without its line feed
unfoldable pub on_first_line : ℕ → List (List ℕ) → List (List ℕ)
on_first_line c [] = (c ∷ []) ∷ []
on_first_line c (l ∷ rest) = (c ∷ l) ∷ rest

unfoldable pub lines_of : List ℕ → List (List ℕ)
lines_of [] = []
lines_of (c ∷ text) = choose (eqb c line_feed) ([] ∷ lines_of text) (on_first_line c (lines_of text))

-- by its number, from 1
unfoldable pub line_of : List ℕ → ℕ → List ℕ
line_of text number = get_or (lines_of text) (number - 1) []

-- ---- what a line says
-- the identifiers of the header's `id` lines
unfoldable pub given_ids : List ℕ → List ℕ
given_ids s = true_identifiers (header s).n (header s).net

-- ` 300 500 leader 500`: all identifiers sorted, and the leader that the rule takes from them
unfoldable pub roster_text : List ℕ → List ℕ
roster_text ids = list_text (sort ids) ++ field_text leader_text (leader_of ids)

-- `base 3` and what follows
unfoldable pub of_base : ℕ → List ℕ → List ℕ
of_base b text = field_text base_text b ++ text

-- the line of base b of the net W, whose identifiers are ids: by the state of base b, which is 2 or 3 exactly if it has stopped
pub data SaysOf (W : Net) (b : ℕ) (ids line : List ℕ) : Type 0 where
  says_idle : has_stopped W b ≡ false → (W.base b).state ≡ 0 → line ≡ of_base b idle_text → SaysOf W b ids line
  says_running : has_stopped W b ≡ false → (W.base b).state ≡ 1 → line ≡ of_base b running_text → SaysOf W b ids line
  says_prime : has_stopped W b ≡ true → (W.base b).state ≡ 2 → line ≡ of_base b (prime_text ++ roster_text ids) → SaysOf W b ids line
  says_secondary : has_stopped W b ≡ true → (W.base b).state ≡ 3 → line ≡ of_base b (secondary_text ++ roster_text ids)
      → SaysOf W b ids line

-- `waiting` and a number
unfoldable pub of_waiting : ℕ → List ℕ
of_waiting count = field_text waiting_text count

-- ---- the statement
-- a text that reports the net W of n bases, whose faulty links and identifiers these are
pub record Reports (n : ℕ) (faulty : List Pair) (W : Net) (ids text : List ℕ) : Type 0 where
  -- a line a base, in order of number, and one more
  pub lines : length (lines_of text) ≡ suc n
  -- line b is that of base b; one that has stopped prints the roster that all others print
  pub bases : (b : ℕ) → BaseOf n b → SaysOf W b ids (line_of text b)
  pub waits : line_of text (suc n) ≡ of_waiting (waiting n faulty W)
  -- `waiting 0`, and no line says idle: no line says running
  pub ends : line_of text (suc n) ≡ of_waiting 0 → ((b : ℕ) → BaseOf n b → line_of text b ≢ of_base b idle_text)
      → (b : ℕ) → BaseOf n b → line_of text b ≢ of_base b running_text

-- of every schedule that is not refused: its header's n and faulty links, and the net after all its lines. Theorem/Proof proves it.
abbrev pub ReportAgrees : Type 0
ReportAgrees = (s : List ℕ) → ((number line : ℕ) → report s ≢ refused_line number line)
    → Reports (header s).n (header s).faulty (meaning s).net (given_ids s) (report s)

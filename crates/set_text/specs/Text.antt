-- What `hillfaults` prints, from the first line of a schedule: every set of the net that it names (document 02, request 1). That they are
-- printed, and the form of the lines, are ours.
use Rattle.std.specs.Prelude.{ℕ, suc, ◌+◌, ◌*◌, List, [], ◌∷◌, ◌++◌, eqb, length}
use Rattle.lists.specs.Choice.{choose}
use Rattle.limits.specs.Limits.{small_bases}
use Rattle.link_sets.specs.declared.LinkPair.{LinkPair}
use Rattle.link_sets.specs.Sets.{faulty_sets}
use Rattle.link_sets.specs.Count.{set_count}
use Rattle.faulty_sets.specs.Answers.{small_refusal}
use Rattle.faulty_sets.specs.Small.{small_faulty}
use Rattle.lines.specs.Lines.{space, faulty_word, after_two, net_line}
use Rattle.print.specs.Decimal.{most_digits, field_text}
use Rattle.schedule.specs.Report.{feed, number_digits, refused_line}

-- ---- a set
-- `set `
abbrev pub set_word : List ℕ
set_word = 115 ∷ 101 ∷ 116 ∷ space ∷ []

-- `faulty a b`, as a schedule has it
unfoldable pub pair_line : LinkPair → List ℕ
pair_line p = (field_text faulty_word p.lower ++ field_text (space ∷ []) p.higher) ++ feed

unfoldable pub pair_lines : List LinkPair → List ℕ
pair_lines [] = []
pair_lines (p ∷ s) = pair_line p ++ pair_lines s

-- `set I` with its number, and its links
unfoldable pub set_lines : ℕ → List LinkPair → List ℕ
set_lines number s = (field_text set_word number ++ feed) ++ pair_lines s

-- ---- all sets
-- those of a list, numbered from i on
unfoldable pub lines_from : ℕ → List (List LinkPair) → List ℕ
lines_from i [] = []
lines_from i (s ∷ l) = set_lines i s ++ lines_from (suc i) l

-- of the net `net n t`; where 1, 2 or 19 refuses it, the one line
unfoldable pub net_sets_text : ℕ → ℕ → List ℕ
net_sets_text n t = let r = small_refusal n t in choose (eqb r 0) (lines_from 0 (faulty_sets n t)) (refused_line r 1)

-- 13, and then the rest; what stands behind the line is not looked at
unfoldable pub sets_text : List ℕ → List ℕ
sets_text s = after_two (net_line s 0) (refused_line 13 1) (λ n t next. net_sets_text n t)

-- ---- in an output
-- room for any pair's line
abbrev pub pair_room : ℕ
pair_room = length faulty_word + number_digits + (1 + number_digits) + length feed

-- room for the lines of any set
abbrev pub set_room : ℕ
set_room = length set_word + most_digits + length feed + pair_room * small_faulty

-- room for those of all sets of the largest small net
unfoldable pub sets_room : ℕ
sets_room = set_room * set_count small_bases small_faulty

-- The lines of a set go into a schedule as they stand: behind `net n t` and the `id` lines, where no `faulty` line follows them, the
-- header is taken whole, and the net's faulty links are those of the set.
use Rattle.std.specs.Prelude.{ℕ, ◌+◌, ◌≡◌, List, ◌++◌, map, length}
use Rattle.lists.specs.Choice.{and}
use Rattle.link_sets.specs.declared.LinkPair.{LinkPair}
use Rattle.link_sets.specs.Statement.{LinkSet}
use Rattle.lines.specs.declared.bases.Two.TheVariants.{Neither}
use Rattle.lines.specs.Lines.{faulty_line}
use Rattle.protocol.specs.Net.{Pair}
use Rattle.schedule.specs.Meaning.{Progress, header}
use Rattle.schedule.specs.Meaning.Begins.{with_ids}
use Rattle.set_text.specs.Text.{pair_lines}

-- ---- the statement
-- a link as a header's line names it
abbrev pub named : LinkPair → Pair
named p = record { one = p.lower; other = p.higher }

-- a header that was read further, and the links that it has named
abbrev pub read_to : ℕ → ℕ → List Pair → Progress → Progress
read_to at line faulty st =
    record { at = at; line = line; refusal = st.refusal; n = st.n; t = st.t; faulty = faulty; net = st.net }

-- a header with the lines of a set besides, whose links are its faulty ones
unfoldable pub with_set : List LinkPair → Progress → Progress
with_set s st = read_to (st.at + length (pair_lines s)) (st.line + length s) (map named s) st

-- the lines of a set "can go into a schedule as they stand": where the lines before them are `net n t` and the `id` lines, none of them
-- turned down, and no `faulty` line follows
abbrev pub SetTaken : List ℕ → List LinkPair → List ℕ → Type 0
SetTaken before s rest =
    let text = before ++ (pair_lines s ++ rest) in
    let ids = with_ids text in
    ids.refusal ≡ 0 → ids.at ≡ length before → LinkSet ids.n ids.t s → faulty_line ids.n text (with_set s ids).at ≡ Neither
    → header text ≡ with_set s ids

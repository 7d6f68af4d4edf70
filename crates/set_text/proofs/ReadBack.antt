-- The lines of a set go into a schedule as they stand: wherever the line of a link of the net stands in a text, a schedule's reader
-- takes it for that link.
use Rattle.std.specs.Prelude.{ℕ, ◌+◌, ◌≤◌, ◌≡◌, List, ◌∷◌, ◌++◌, length, drop}
use Rattle.std.proofs.Common.{sym, ap, ◌∙◌, append_assoc, arith, lt-ltb, length-append, drop-drop}
use Rattle.std.proofs.Math.Seq.{drop-append_seam}
use Rattle.lists.specs.Choice.Laws.{choose_yes, and_both}
use Rattle.link_sets.specs.declared.LinkPair.{LinkPair}
use Rattle.link_sets.specs.Statement.{OfNet}
use Rattle.text.specs.Number.{most_number}
use Rattle.words.specs.declared.Word.TheVariants.{Past}
use Rattle.words.specs.Word.{word_from, word_at}
use Rattle.print.specs.Decimal.{decimal_text}
use Rattle.lines.specs.declared.bases.Two.TheVariants.{Both}
use Rattle.lines.specs.Lines.{space, line_feed, faulty_word, faulty_line}
use Rattle.lines.specs.Lines.Laws.{is_base_lem}
use Rattle.schedule.proofs.ReadBack.{word_read, two_read}
use Rattle.set_text.specs.Text.{pair_line}

line_parts : (l : LinkPair) (rest : List ℕ)
    → pair_line l ++ rest ≡ faulty_word ++ (decimal_text l.lower ++ (space ∷ (decimal_text l.higher ++ (line_feed ∷ rest))))
unfolding pair_line
line_parts l rest = simp append_assoc

line_length_lem : (l : LinkPair)
    → length (pair_line l) ≡ length faulty_word + length (decimal_text l.lower) + 1 + length (decimal_text l.higher) + 1
unfolding pair_line
line_length_lem l = simp length-append (omega arith)

pub pair_read : (n : ℕ) (l : LinkPair) → OfNet n l → n ≤ most_number → (before rest : List ℕ)
    → faulty_line n (before ++ (pair_line l ++ rest)) (length before) ≡ Both l.lower l.higher (length before + length (pair_line l))
unfolding faulty_line word_at
pair_read n l N most before rest =
    let s = before ++ (pair_line l ++ rest) in
    let p = length before in
    let fields = decimal_text l.lower ++ (space ∷ (decimal_text l.higher ++ (line_feed ∷ rest))) in
    let at = drop-append_seam before (pair_line l ++ rest) ∙ line_parts l rest in
    let word : word_from faulty_word (drop p s) p ≡ Past (p + length faulty_word)
    = ap (λ (x : List ℕ). word_from faulty_word x p) at ∙ word_read faulty_word fields p in
    let then : drop (p + length faulty_word) s ≡ fields
    = sym (drop-drop (length faulty_word) p s) ∙ ap (drop (length faulty_word)) at ∙ drop-append_seam faulty_word fields in
    let two = two_read s (p + length faulty_word) l.lower l.higher rest N.numbered (omega (arith, N.apart, N.within))
    (omega (arith, N.apart)) (omega (arith, N.within)) then in
    let bases = and_both (is_base_lem n l.lower N.numbered (omega (arith, N.apart, N.within)))
    (and_both (is_base_lem n l.higher (omega (arith, N.apart)) N.within) (lt-ltb l.lower l.higher N.apart)) in
    let far : p + length faulty_word + length (decimal_text l.lower) + 1 + length (decimal_text l.higher) + 1 ≡ p + length (pair_line l)
    = omega (arith, line_length_lem l) in
    rw (word, two) (choose_yes _ _ bases ∙ ap (Both l.lower l.higher) far)

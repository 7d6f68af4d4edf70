-- The lines one after another: one pair more, one set more, and how long they are at most.
use Rattle.std.specs.Prelude.{ℕ, suc, ◌+◌, ◌*◌, ◌-◌, ◌/◌, ◌≤◌, ◌<◌, min, ◌≡◌, refl, ◌≢◌, List, [], ◌∷◌, ◌++◌, length, get_or, take}
use Rattle.std.proofs.Common.{sym, ap, ◌∙◌, append_assoc, append-nil, add-one, arith, eq-eqb, ne_eqb, length-take, take-suc}
use Rattle.lists.specs.Choice.Laws.{chosen_yes, chosen_no}
use Rattle.lists.specs.Lists.Laws.{take_least}
use Rattle.limits.specs.Limits.{small_bases}
use Rattle.link_sets.specs.declared.LinkPair.{LinkPair}
use Rattle.link_sets.specs.Count.{set_count, choices, choices_below}
use Rattle.link_sets.specs.Sets.{faulty_sets}
use Rattle.lines.specs.declared.bases.Two.{Two}
use Rattle.lines.specs.declared.bases.Two.TheVariants.{Both, Neither}
use Rattle.lines.specs.Lines.{net_line}
use Rattle.print.specs.Decimal.{field_text}
use Rattle.schedule.specs.Report.{feed, refused_line}
use Rattle.faulty_sets.specs.declared.FaultySet.{FaultySet}
use Rattle.faulty_sets.specs.declared.FaultySet.TheVariants.{Links, Refused}
use Rattle.faulty_sets.specs.Answers.{small_refusal, answered_links}
use Rattle.faulty_sets.specs.Small.{small_faulty, small_pairs}
use Rattle.set_text.specs.Text.{set_word, pair_line, pair_lines, set_lines, lines_from, net_sets_text, sets_text}
use Rattle.set_text.specs.Text.{set_room, sets_room}

-- ---- pairs
pairs_append : (s u : List LinkPair) → pair_lines (s ++ u) ≡ pair_lines s ++ pair_lines u
unfolding pair_lines
pairs_append [] u = refl
pairs_append (p ∷ s) u =
    ap (λ (t : List ℕ). pair_line p ++ t) (pairs_append s u) ∙ sym (append_assoc (pair_line p) (pair_lines s) (pair_lines u))

pub pairs_none : pair_lines [] ≡ []
unfolding pair_lines
pairs_none = refl

one_pair : (p : LinkPair) → pair_lines (p ∷ []) ≡ pair_line p
unfolding pair_lines
one_pair p = append-nil (pair_line p)

pub pairs_more : (s : List LinkPair) (i : ℕ) (d : LinkPair) → i < length s
    → pair_lines (take i s) ++ pair_line (get_or s i d) ≡ pair_lines (take (i + 1) s)
pairs_more s i d h =
    sym (ap (λ (k : ℕ). pair_lines (take k s)) (add-one i) ∙ ap pair_lines (take-suc s i d h) ∙ pairs_append (take i s) (get_or s i d ∷ [])
    ∙ ap (λ (t : List ℕ). pair_lines (take i s) ++ t) (one_pair (get_or s i d)))

-- ---- one set
pub set_nothing : (number r : ℕ) {a : FaultySet} → a ≡ Refused r → field_text set_word number ++ feed ≡ set_lines number (answered_links a)
unfolding set_lines answered_links pair_lines
set_nothing number r e = rw e (sym (append-nil (field_text set_word number ++ feed)))

pub set_linked : (number count : ℕ) (p q : LinkPair) {a : FaultySet} → a ≡ Links count p q → {m : ℕ} → m ≡ min count small_faulty
    → (field_text set_word number ++ feed) ++ pair_lines (take m (p ∷ (q ∷ []))) ≡ set_lines number (answered_links a)
unfolding set_lines answered_links
set_linked number count p q {a} e {m} f =
    let some = take_least count m small_faulty (p ∷ (q ∷ [])) refl f in
    rw e (ap (λ (s : List LinkPair). (field_text set_word number ++ feed) ++ pair_lines s) some)

-- ---- sets
pub lines_none : lines_from 0 [] ≡ []
unfolding lines_from
lines_none = refl

from_append : (i : ℕ) (l : List (List LinkPair)) (s : List LinkPair)
    → lines_from i (l ++ (s ∷ [])) ≡ lines_from i l ++ set_lines (i + length l) s
unfolding lines_from
from_append i [] s = let e : i ≡ i + 0 = omega arith in append-nil (set_lines i s) ∙ ap (λ (k : ℕ). set_lines k s) e
from_append i (u ∷ l) s =
    let e : suc i + length l ≡ i + suc (length l) = omega arith in
    ap (λ (t : List ℕ). set_lines i u ++ t) (from_append (suc i) l s ∙ ap (λ (k : ℕ). lines_from (suc i) l ++ set_lines k s) e)
    ∙ sym (append_assoc (set_lines i u) (lines_from (suc i) l) (set_lines (i + suc (length l)) s))

pub lines_more : (i : ℕ) (l : List (List LinkPair)) → i < length l → {s : List LinkPair} → s ≡ get_or l i []
    → lines_from 0 (take i l) ++ set_lines i s ≡ lines_from 0 (take (i + 1) l)
lines_more i l h {s} e =
    let many : i ≡ 0 + length (take i l) = omega (arith, length-take i l) in
    let last : set_lines i s ≡ set_lines (0 + length (take i l)) (get_or l i [])
    = ap (λ (u : List LinkPair). set_lines i u) e ∙ ap (λ (k : ℕ). set_lines k (get_or l i [])) many in
    ap (λ (t : List ℕ). lines_from 0 (take i l) ++ t) last ∙ sym (from_append 0 (take i l) (get_or l i []))
    ∙ sym (ap (λ (k : ℕ). lines_from 0 (take k l)) (add-one i) ∙ ap (lines_from 0) (take-suc l i [] h))

-- ---- the lines of a net
pub net_listed : (n t : ℕ) → small_refusal n t ≡ 0 → lines_from 0 (faulty_sets n t) ≡ net_sets_text n t
unfolding net_sets_text
net_listed n t e = chosen_yes _ (eq-eqb _ 0 e) refl

pub net_refused : (n t : ℕ) {r : ℕ} → r ≡ small_refusal n t → small_refusal n t ≢ 0 → refused_line r 1 ≡ net_sets_text n t
unfolding net_sets_text
net_refused n t e h = chosen_no _ (ne_eqb _ 0 h) (ap (λ (k : ℕ). refused_line k 1) e)

-- ---- the first line
pub line_broken : (s : List ℕ) {r : Two} → r ≡ net_line s 0 → r ≡ Neither → refused_line 13 1 ≡ sets_text s
unfolding sets_text
line_broken s e f = rw (sym e ∙ f)

pub line_names : (s : List ℕ) {n t p : ℕ} {r : Two} → r ≡ net_line s 0 → r ≡ Both n t p → net_sets_text n t ≡ sets_text s
unfolding sets_text
line_names s e f = rw (sym e ∙ f)

-- ---- room
-- the room that is asked, as a number
pub room_is : sets_room ≡ set_room * (1 + small_pairs + small_pairs * (small_pairs - 1) / 2)
unfolding sets_room set_count choices_below choices
room_is = refl

-- where there is room for all lines there is room for those of one set more
pub room_left : (number count len : ℕ) → number < count → count ≤ set_count small_bases small_faulty → sets_room ≤ len
    → set_room * number + set_room ≤ len
unfolding sets_room
room_left number count len h few room = omega arith

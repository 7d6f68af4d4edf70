-- The lines of a set go into a schedule as they stand: behind `net n t` and the `id` lines, where no `faulty` line follows them, the
-- header is taken whole, and the net's faulty links are those of the set.
use Rattle.std.specs.Prelude.{ℕ, zero, suc, ◌+◌, ◌≤◌, ◌<◌, ◌≡◌, refl, true, false, not, List, [], ◌∷◌, ◌++◌, map, eqb, length}
use Rattle.std.proofs.Common.{sym, ap, ◌∙◌, inl, inr, append_assoc, append-nil, arith, eq-eqb, ne_eqb, length-append}
use Rattle.std.proofs.lemmas.Bool.{lt-leb}
use Rattle.lists.specs.Choice.{and}
use Rattle.lists.specs.Choice.Laws.{choose_yes, choose_no, and_both, and_true, and_fails, and_no, or_neither}
use Rattle.link_sets.specs.declared.LinkPair.{LinkPair}
use Rattle.link_sets.specs.Statement.{OfNet, Precedes, Each, Ascending}
use Rattle.limits.specs.Refusals.{size_refusal}
use Rattle.text.specs.Number.{most_number}
use Rattle.text.specs.Number.Range.{Field}
use Rattle.lines.specs.declared.bases.Two.TheVariants.{Both, Neither}
use Rattle.lines.specs.Lines.{net_line, id_line, faulty_line}
use Rattle.lines.specs.Lines.Found.{number_ind, two_ind, TwoFound, net_found, id_found}
use Rattle.protocol.specs.Net.{Pair, joins, good}
use Rattle.schedule.specs.Header.{id_refusal, faulty_refusal}
use Rattle.schedule.specs.Walk.{repeat, judged, unless_refused, net_step, id_step, id_steps, mark_step, faulty_step, header_walk}
use Rattle.schedule.proofs.Walk.Laws.{repeat_none, repeat_first, repeat_done}
use Rattle.schedule.specs.Meaning.{Progress, unread, refuse, onward, with_size, with_id, with_faulty, header, scheduled}
use Rattle.schedule.proofs.Meaning.Laws.{judged_ind, unless_ind}
use Rattle.schedule.specs.Meaning.Begins.{with_ids}
use Rattle.schedule.proofs.Meaning.Begins.{ids_whole}
use Rattle.set_text.specs.Text.{pair_line, pair_lines}
use Rattle.set_text.proofs.ReadBack.{pair_read}
use Rattle.set_text.specs.Taken.{SetTaken, named, read_to, with_set}

-- ---- a link that no line has named is good so far
apart : (n : ℕ) (p q : LinkPair) → OfNet n q → Precedes p q → joins (named p) q.lower q.higher ≡ false
unfolding joins
apart n p q Q (inl h) = or_neither
    (sym (and_fails _ (ne_eqb p.lower q.lower (λ e. omega arith))))
    (sym (and_fails _ (ne_eqb p.lower q.higher (λ e. omega (arith, Q.apart)))))
apart n p q Q (inr h) = or_neither
    (ap (and (eqb p.lower q.lower)) (ne_eqb p.higher q.higher (λ e. omega (arith, h.1))) ∙ and_no _)
    (sym (and_fails _ (ne_eqb p.lower q.higher (λ e. omega (arith, h.0, Q.apart)))))

good_still : (faulty : List Pair) (p : Pair) (a b : ℕ) → good faulty a b ≡ true → joins p a b ≡ false → good (faulty ++ (p ∷ [])) a b ≡ true
unfolding good
good_still [] p a b g e = and_both (ap not e) refl
good_still (q ∷ faulty) p a b g e =
    let h = and_true (not (joins q a b)) (good faulty a b) g in
    and_both h.0 (good_still faulty p a b h.1 e)

abbrev Unnamed : List Pair → List LinkPair → Type 0
Unnamed faulty s = Each (λ q. good faulty q.lower q.higher ≡ true) s

all_unnamed : (s : List LinkPair) → Unnamed [] s
unfolding good
all_unnamed [] = tt
all_unnamed (q ∷ s) = (refl, all_unnamed s)

still_unnamed : (n : ℕ) (p : LinkPair) (faulty : List Pair) (s : List LinkPair)
    → Each (OfNet n) s → Each (Precedes p) s → Unnamed faulty s → Unnamed (faulty ++ (named p ∷ [])) s
still_unnamed n p faulty [] N B U = tt
still_unnamed n p faulty (q ∷ s) N B U =
    (good_still faulty (named p) q.lower q.higher U.0 (apart n p q N.0 B.0), still_unnamed n p faulty s N.1 B.1 U.1)

-- ---- one line
one_taken : (text : List ℕ) (st : Progress) (a b next : ℕ) → st.refusal ≡ 0 → faulty_line st.n text st.at ≡ Both a b next
    → good st.faulty a b ≡ true → length st.faulty < st.t → faulty_step scheduled text st ≡ with_faulty a b (onward next st)
unfolding faulty_step unless_refused mark_step judged faulty_refusal
one_taken text st a b next r line g few =
    choose_yes _ _ (eq-eqb _ 0 r)
    ∙ rw line (choose_no _ _ (ap not g) ∙ choose_yes _ _ (eq-eqb _ 0 (choose_no _ _ (lt-leb st.t (length st.faulty) few))))

-- ---- all lines
-- a header with the lines of some links behind those of others
unfoldable with_lines : List LinkPair → Progress → Progress
with_lines s st = read_to (st.at + length (pair_lines s)) (st.line + length s) (st.faulty ++ map named s) st

read_to_lem : (st : Progress) {a b l m : ℕ} {f g : List Pair} → a ≡ b → l ≡ m → f ≡ g → read_to a l f st ≡ read_to b m g st
read_to_lem st {a} {b} {l} {m} {f} {g} ea el ef =
    ap (λ (x : ℕ). read_to x l f st) ea ∙ ap (λ (x : ℕ). read_to b x f st) el ∙ ap (λ (x : List Pair). read_to b m x st) ef

with_none : (st : Progress) → with_lines [] st ≡ st
unfolding with_lines pair_lines
with_none st = read_to_lem st (omega arith) (omega arith) (append-nil st.faulty)

with_more : (p : LinkPair) (s : List LinkPair) (st : Progress)
    → with_lines s (with_faulty p.lower p.higher (onward (st.at + length (pair_line p)) st)) ≡ with_lines (p ∷ s) st
unfolding with_lines pair_lines with_faulty onward
with_more p s st = read_to_lem st (omega (arith, length-append (pair_line p) (pair_lines s))) (omega arith)
    (append_assoc st.faulty (named p ∷ []) (map named s))

first_pair : (p : LinkPair) (s : List LinkPair) (rest : List ℕ) → pair_lines (p ∷ s) ++ rest ≡ pair_line p ++ (pair_lines s ++ rest)
unfolding pair_lines
first_pair p s rest = append_assoc (pair_line p) (pair_lines s) rest

lines_taken : (text : List ℕ) (s : List LinkPair) (st : Progress) (before rest : List ℕ) → text ≡ before ++ (pair_lines s ++ rest)
    → st.at ≡ length before → st.refusal ≡ 0 → Each (OfNet st.n) s → Ascending s → Unnamed st.faulty s
    → length st.faulty + length s ≤ st.t → st.n ≤ most_number → repeat (length s) (faulty_step scheduled text) st ≡ with_lines s st
unfolding with_faulty onward
lines_taken text [] st before rest e at r N A U few most = sym (repeat_none _ st) ∙ sym (with_none st)
lines_taken text (p ∷ s) st before rest e at r N A U few most =
    let next = st.at + length (pair_line p) in
    let then = with_faulty p.lower p.higher (onward next st) in
    let begins : text ≡ before ++ (pair_line p ++ (pair_lines s ++ rest)) = e ∙ ap (λ (u : List ℕ). before ++ u) (first_pair p s rest) in
    let line : faulty_line st.n text st.at ≡ Both p.lower p.higher next
    = rw (begins, at) (pair_read st.n p N.0 most before (pair_lines s ++ rest)) in
    let goes_on = begins ∙ sym (append_assoc before (pair_line p) (pair_lines s ++ rest)) in
    let others = lines_taken text s then (before ++ pair_line p) rest goes_on (omega (arith, at, length-append before (pair_line p))) r N.1
    A.1 (still_unnamed st.n p st.faulty s N.1 A.0 U.1)
    (omega (arith, few, length-append st.faulty (named p ∷ []))) most in
    repeat_first (length s) (faulty_step scheduled text) st
    ∙ ap (repeat (length s) (faulty_step scheduled text)) (one_taken text st p.lower p.higher next r line U.0 (omega (arith, few)))
    ∙ others ∙ with_more p s st

-- ---- the lines before those of a set name no faulty link
abbrev Unmarked : Progress → Type 0
Unmarked st = st.faulty ≡ []

net_unmarked : (text : List ℕ) → Unmarked (net_step scheduled text unread)
unfolding net_step unread refuse with_size onward
net_unmarked text = two_ind Unmarked (net_line text 0) (TwoFound 0) (net_found text 0) refl
    (λ n t next _. judged_ind Unmarked (size_refusal n t) unread (with_size n t (onward next unread)) (λ _. refl) (λ _. refl))

id_unmarked : (text : List ℕ) (b : ℕ) (st : Progress) → Unmarked st → Unmarked (id_step scheduled text b st)
unfolding id_step refuse with_id onward
id_unmarked text b st m = unless_ind Unmarked st _
    (λ _. number_ind Unmarked (id_line b text st.at) (Field st.at) (id_found b text st.at) m
    (λ v next _. judged_ind Unmarked (id_refusal st.net v) st (with_id b v (onward next st)) (λ _. m) (λ _. m)))
    (λ _. m)

ids_unmarked : (text : List ℕ) (k : ℕ) (st : Progress) → Unmarked st → Unmarked (id_steps scheduled text k st)
unfolding id_steps
ids_unmarked text zero st m = m
ids_unmarked text (suc k) st m = id_unmarked text (suc k) (id_steps scheduled text k st) (ids_unmarked text k st m)

-- ---- a set
read_all : (text : List ℕ) (st : Progress) → faulty_line st.n text st.at ≡ Neither → faulty_step scheduled text st ≡ st
unfolding faulty_step
read_all text st e = unless_ind (λ (x : Progress). x ≡ st) st _ (λ _. rw e refl) (λ _. refl)

pub set_taken : (before : List ℕ) (s : List LinkPair) (rest : List ℕ) → SetTaken before s rest
unfolding header_walk with_set with_lines
set_taken before s rest r at S last =
    let text = before ++ (pair_lines s ++ rest) in
    let ids = with_ids text in
    let none = ids_unmarked text (net_step scheduled text unread).n (net_step scheduled text unread) (net_unmarked text) in
    let few : length ids.faulty + length s ≤ ids.t = omega (arith, S.few, ap length none) in
    let lines = lines_taken text s ids before rest refl at r S.of_net S.ascends (rw none (all_unnamed s)) few
    (omega (arith, (ids_whole text r).size.most)) in
    let set = lines ∙ read_to_lem ids refl refl (ap (λ (f : List Pair). f ++ map named s) none) in
    sym (repeat_done (suc ids.t) (length s) (faulty_step scheduled text) ids
    (omega (arith, few)) (sym set) (read_all text (with_set s ids) last))

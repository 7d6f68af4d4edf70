-- The leader of a list, from its end: of the last places of the list, with one place more.
use Rattle.std.specs.Prelude.{ℕ, suc, ◌-◌, ◌≤◌, ◌<◌, ◌≡◌, List, ◌∷◌, length, drop, get_or}
use Rattle.std.proofs.Common.{sym, ap, ◌∙◌, arith, le-leb, drop_of_length-le, drop-cons}
use Rattle.std.proofs.lemmas.Bool.{lt-leb}
use Rattle.lists.specs.Choice.Laws.{choose_yes, choose_no}
use Rattle.protocol.specs.Steps.{leader_of}

pub leader_none : (l : List ℕ) → 0 ≡ leader_of (drop (length l) l)
unfolding leader_of
leader_none l = sym (ap leader_of (drop_of_length-le l {i = length l} (omega arith)))

-- the places from i − 1 on
drop_before : (l : List ℕ) (i : ℕ) → 0 < i → i ≤ length l → drop (i - 1) l ≡ get_or l (i - 1) 0 ∷ drop i l
drop_before l i some h =
    let e : suc (i - 1) ≡ i = omega arith in
    drop-cons l (i - 1) 0 (omega arith) ∙ ap (λ (k : ℕ). get_or l (i - 1) 0 ∷ drop k l) e

pub leader_new : (l : List ℕ) (i most : ℕ)
    → 0 < i → i ≤ length l → most ≡ leader_of (drop i l) → most < get_or l (i - 1) 0 → get_or l (i - 1) 0 ≡ leader_of (drop (i - 1) l)
unfolding leader_of
leader_new l i most some h e more =
    sym (ap leader_of (drop_before l i some h) ∙ choose_no _ _ (lt-leb (get_or l (i - 1) 0) (leader_of (drop i l)) (omega arith)))

pub leader_same : (l : List ℕ) (i most : ℕ)
    → 0 < i → i ≤ length l → most ≡ leader_of (drop i l) → get_or l (i - 1) 0 ≤ most → most ≡ leader_of (drop (i - 1) l)
unfolding leader_of
leader_same l i most some h e less = e
    ∙ sym (ap leader_of (drop_before l i some h) ∙ choose_yes _ _ (le-leb (get_or l (i - 1) 0) (leader_of (drop i l)) (omega arith)))

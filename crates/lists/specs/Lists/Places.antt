-- The places of a list: what stands at one is a member, and where none stands twice different places differ.
use Rattle.std.specs.Prelude.{ℕ, zero, suc, ◌<◌, ◌≡◌, refl, true, false, not, List, [], ◌∷◌, length, get_or}
use Rattle.std.proofs.Common.{sym, ap, subst, arith}
use Rattle.std.proofs.lemmas.Bool.{not-true}
use Rattle.lists.specs.Choice.Laws.{and_true}
use Rattle.lists.specs.Lists.{member, distinct}
use Rattle.lists.specs.Lists.Sets.{member_head, member_tail}

pub member_at : (l : List ℕ) (i : ℕ) → i < length l → member (get_or l i 0) l ≡ true
member_at [] i h = absurd (omega arith)
member_at (x ∷ l) zero h = member_head x l
member_at (x ∷ l) (suc i) h = member_tail (get_or l i 0) x l (member_at l i (omega arith))

pub distinct_parts : (x : ℕ) (l : List ℕ) → distinct (x ∷ l) ≡ true → (member x l ≡ false) × (distinct l ≡ true)
unfolding distinct
distinct_parts x l e = let p = and_true (not (member x l)) (distinct l) e in (not-true (member x l) p.0, p.1)

not_again : (x : ℕ) (l : List ℕ) → member x l ≡ false → (j : ℕ) → j < length l → x ≡ get_or l j 0 → ⊥
not_again x l e j h q =
    let m : member x l ≡ true = subst (λ z. member z l ≡ true) (sym q) (member_at l j h) in
    let z : ◌≡◌ {A = ℕ} 0 1 = cc in
    omega arith

pub distinct_places : (l : List ℕ) → distinct l ≡ true → (i j : ℕ) → i < length l → j < length l → get_or l i 0 ≡ get_or l j 0 → i ≡ j
distinct_places [] e i j li lj q = absurd (omega arith)
distinct_places (x ∷ l) e zero zero li lj q = refl
distinct_places (x ∷ l) e zero (suc j) li lj q = absurd (not_again x l (distinct_parts x l e).0 j (omega arith) q)
distinct_places (x ∷ l) e (suc i) zero li lj q = absurd (not_again x l (distinct_parts x l e).0 i (omega arith) (sym q))
distinct_places (x ∷ l) e (suc i) (suc j) li lj q = ap suc (distinct_places l (distinct_parts x l e).1 i j (omega arith) (omega arith) q)

-- The sets of k of an ascending list: each ascends and has pairs of the list alone, none is left out, and the lower number has the lower
-- pair at the first difference.
use Rattle.std.specs.Prelude.{ℕ, zero, suc, ◌+◌, ◌-◌, ◌<◌, ◌≡◌, List, [], ◌∷◌, length, get_or}
use Rattle.std.proofs.Math.Path.{refl}
use Rattle.std.proofs.Common.{sym, ap, ◌∙◌, subst, subst₂, inl, inr, arith}
use Rattle.std.proofs.Math.Decide.{dec_lt}
use Rattle.link_sets.specs.declared.LinkPair.{LinkPair}
use Rattle.link_sets.specs.Sets.{sets_of}
use Rattle.link_sets.proofs.Sets.Laws.{sets_none, sets_of_nothing, sets_both, set_with, set_without, set_ind, set_size}
use Rattle.link_sets.specs.Statement.{Precedes, Each, Ascending, LowerPair}
use Rattle.link_sets.proofs.Theorem.Members.{Among, each_both, each_at, each_within}
use Rattle.link_sets.proofs.Theorem.Pairs.{not_itself, not_both}

-- ---- what a number gives
-- a part of the list, in its order
pub record Part (l s : List LinkPair) : Type 0 where
  pub within : (x : LinkPair) → Among x s → Among x l
  pub ascends : Ascending l → Ascending s

pub set_part : (k : ℕ) (l : List LinkPair) (i : ℕ) → i < length (sets_of k l) → Part l (get_or (sets_of k l) i [])
set_part = set_ind (λ k l s. Part l s) (λ l. record { within = λ x m. absurd m; ascends = λ a. tt })
    (λ k p l s P. record {
      within = λ x m. elim m [ inl e ↦ inl e | inr n ↦ inr (P.within x n) ];
      ascends = λ a. (each_within (Precedes p) s l P.within a.0, P.ascends a.1);
    })
    (λ k p l s P. record { within = λ x m. inr (P.within x m); ascends = λ a. P.ascends a.1 })

-- ---- the order
lower_front : (p : LinkPair) (s u : List LinkPair) (k : ℕ) → Each (Precedes p) u → length u ≡ suc k → LowerPair (p ∷ s) u
lower_front p s [] k e h = absurd (omega arith)
lower_front p s (q ∷ u) k e h = inl e.0

pub set_lower : (k : ℕ) (l : List LinkPair) → Ascending l → (i j : ℕ) → i < j → j < length (sets_of k l)
    → LowerPair (get_or (sets_of k l) i []) (get_or (sets_of k l) j [])
set_lower zero l a i j h g = absurd (omega (arith, sets_none l))
set_lower (suc k) [] a i j h g = absurd (omega (arith, sets_of_nothing LinkPair k))
set_lower (suc k) (p ∷ l) a i j h g = elim (dec_lt j (length (sets_of k l))) [
  | yes y ↦ subst₂ LowerPair (sym (set_with k p l i (omega arith))) (sym (set_with k p l j y)) (inr (refl, set_lower k l a.1 i j h y))
  | no y ↦ elim (dec_lt i (length (sets_of k l))) [
    | yes x ↦ subst₂ LowerPair (sym (set_with k p l i x)) (sym (set_without k p l j (omega arith))) (front (omega (arith, sets_both k p l)))
    | no x ↦ subst₂ LowerPair (sym (set_without k p l i (omega arith))) (sym (set_without k p l j (omega arith)))
        (set_lower (suc k) l a.1 (i - length (sets_of k l)) (j - length (sets_of k l)) (omega arith) (omega (arith, sets_both k p l)))
  ]
]
  where
    front : j - length (sets_of k l) < length (sets_of (suc k) l)
        → LowerPair (p ∷ get_or (sets_of k l) i []) (get_or (sets_of (suc k) l) (j - length (sets_of k l)) [])
    front less =
        let rest = j - length (sets_of k l) in
        let s = get_or (sets_of (suc k) l) rest [] in
        lower_front p (get_or (sets_of k l) i []) s k (each_within (Precedes p) s l (set_part (suc k) l rest less).within a.0)
        (set_size (suc k) l rest less)

-- ---- none is left out
-- where a set stands
pub record Place (s : List LinkPair) (L : List (List LinkPair)) : Type 0 where
  pub number : ℕ
  pub there : number < length L
  pub is : get_or L number [] ≡ s

place_with : (p : LinkPair) (s l : List LinkPair) (k : ℕ) → Place s (sets_of k l) → Place (p ∷ s) (sets_of (suc k) (p ∷ l))
place_with p s l k P = record {
  number = P.number;
  there = omega (arith, sets_both k p l, P.there);
  is = set_with k p l P.number P.there ∙ ap (p ∷◌) P.is;
}

place_without : (p : LinkPair) (s l : List LinkPair) (k : ℕ) → Place s (sets_of (suc k) l) → Place s (sets_of (suc k) (p ∷ l))
place_without p s l k P =
    let before = length (sets_of k l) in
    let back : before + P.number - before ≡ P.number = omega arith in
    record {
      number = before + P.number;
      there = omega (arith, sets_both k p l, P.there);
      is = set_without k p l (before + P.number) (omega arith) ∙ ap (λ (i : ℕ). get_or (sets_of (suc k) l) i []) back ∙ P.is;
    }

-- what follows a pair that p precedes, or p itself, is not p
not_first : (p q : LinkPair) (l s : List LinkPair) → ((x : LinkPair) → Precedes q x → p ≡ x → ⊥)
    → Each (Precedes q) s → Each (λ x. Among x (p ∷ l)) s → Each (λ x. Among x l) s
not_first p q l s never after =
    each_both (Precedes q) (λ x. Among x (p ∷ l)) (λ x. Among x l) (λ x h m. elim m [ inl e ↦ absurd (never x h e) | inr r ↦ r ]) s after

pub set_place : (l : List LinkPair) → Ascending l → (s : List LinkPair) → Each (λ x. Among x l) s → Ascending s
    → Place s (sets_of (length s) l)
set_place l a [] m b = record { number = 0; there = omega (arith, sets_none l); is = unfold sets_of in refl }
set_place [] a (q ∷ s) m b = absurd m.0
set_place (p ∷ l) a (q ∷ s) m b = elim m.0 [
  | inl e ↦ subst (λ (x : LinkPair). Place (x ∷ s) (sets_of (suc (length s)) (p ∷ l))) e (place_with p s l (length s)
      (set_place l a.1 s (not_first p q l s (λ x h d. not_itself q (subst (Precedes q) (sym d ∙ e) h)) b.0 m.1) b.1))
  | inr r ↦
      let above = each_at (Precedes p) q l a.0 r in
      let rest = not_first p q l s (λ x h d. not_both p q above (subst (Precedes q) (sym d) h)) b.0 m.1 in
      place_without p (q ∷ s) l (length s) (set_place l a.1 (q ∷ s) (r, rest) b)
]

-- Ascending lists are fixed by what they hold: so the sorted list of different identifiers does not go by the order in which they came.
use Rattle.std.specs.Prelude.{ℕ, ◌<◌, ◌≡◌, refl, ◌⊎◌, Bool, true, false, List, [], ◌∷◌, ◌++◌}
use Rattle.std.proofs.Common.{sym, ap₂, ◌∙◌, inl, inr, arith}
use Rattle.lists.specs.Lists.Sets.{member_head, member_tail, member_cases}
use Rattle.lists.specs.Lists.Sorted.{ascending_tail}
use Rattle.lists.specs.Lists.{member, ascending}

-- ---- membership
pub member_none : (z : ℕ) → member z [] ≡ true → ⊥
unfolding member
member_none z e = let k : ◌≡◌ {A = ℕ} 0 1 = cc in omega arith

-- one more behind
pub member_front : (z : ℕ) (l : List ℕ) (x : ℕ) → member z l ≡ true → member z (l ++ (x ∷ [])) ≡ true
member_front z [] x h = absurd (member_none z h)
member_front z (y ∷ l) x h = elim (member_cases z y l h) [
  | inl e ↦ rw e (member_head z (l ++ (x ∷ [])))
  | inr e ↦ member_tail z y (l ++ (x ∷ [])) (member_front z l x e)
]

pub member_last : (l : List ℕ) (x : ℕ) → member x (l ++ (x ∷ [])) ≡ true
member_last [] x = member_head x []
member_last (y ∷ l) x = member_tail x y (l ++ (x ∷ [])) (member_last l x)

pub member_snoc_cases : (z : ℕ) (l : List ℕ) (x : ℕ) → member z (l ++ (x ∷ [])) ≡ true → (member z l ≡ true) ⊎ (x ≡ z)
member_snoc_cases z [] x h = elim (member_cases z x [] h) [ inl e ↦ inr e | inr e ↦ inl e ]
member_snoc_cases z (y ∷ l) x h = elim (member_cases z y (l ++ (x ∷ [])) h) [
  | inl e ↦ inl (rw e (member_head z l))
  | inr e ↦ elim (member_snoc_cases z l x e) [ inl k ↦ inl (member_tail z y l k) | inr k ↦ inr k ]
]

-- ---- an ascending list
-- what follows the first is larger
pub ascending_above : (x : ℕ) (l : List ℕ) → ascending (x ∷ l) ≡ true → (z : ℕ) → member z l ≡ true → x < z
ascending_above x [] e z h = absurd (member_none z h)
ascending_above x (y ∷ l) e z h =
    let p = ascending_tail x (y ∷ l) e in
    go p.0 (member_cases z y l h) (λ k. ascending_above y l p.1 z k)
  where
    go : x < y → (y ≡ z) ⊎ (member z l ≡ true) → (member z l ≡ true → y < z) → x < z
    go p (inl q) ih = omega arith
    go p (inr q) ih = omega (arith, ih q)

pub ascending_unique : (l k : List ℕ) → ascending l ≡ true → ascending k ≡ true → ((z : ℕ) → member z l ≡ member z k) → l ≡ k
ascending_unique [] [] a b same = refl
ascending_unique [] (y ∷ k) a b same = absurd (member_none y (same y ∙ member_head y k))
ascending_unique (x ∷ l) [] a b same = absurd (member_none x (sym (same x) ∙ member_head x l))
ascending_unique (x ∷ l) (y ∷ k) a b same =
    ap₂ ◌∷◌ first
    (ascending_unique l k (ascending_tail x l a).1 (ascending_tail y k b).1 (λ z. rest z (member z l) (member z k) refl refl))
  where
    there : (z : ℕ) → member z (x ∷ l) ≡ true → (y ≡ z) ⊎ (member z k ≡ true)
    there z h = member_cases z y k (sym (same z) ∙ h)

    back : (z : ℕ) → member z (y ∷ k) ≡ true → (x ≡ z) ⊎ (member z l ≡ true)
    back z h = member_cases z x l (same z ∙ h)

    first : x ≡ y
    first = elim (there x (member_head x l)) [
      | inl e ↦ sym e
      | inr h ↦ elim (back y (member_head y k)) [
        | inl e ↦ e
        | inr g ↦ absurd (omega (arith, ascending_above y k b x h, ascending_above x l a y g))
      ]
    ]

    rest : (z : ℕ) (p q : Bool) → member z l ≡ p → member z k ≡ q → p ≡ q
    rest z true true e f = refl
    rest z true false e f = elim (there z (member_tail z x l e)) [
      | inl h ↦ absurd (omega (arith, ascending_above x l a z e, first))
      | inr h ↦ sym h ∙ f
    ]
    rest z false true e f = elim (back z (member_tail z y k f)) [
      | inl h ↦ absurd (omega (arith, ascending_above y k b z f, first))
      | inr h ↦ sym e ∙ h
    ]
    rest z false false e f = refl

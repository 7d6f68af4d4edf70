-- A list as the set of its members: one more element somewhere in it, and what holds of each member.
use Rattle.std.specs.Prelude.{ℕ, zero, suc, ◌<◌, ◌≤◌, ◌≡◌, refl, ◌⊎◌, Bool, true, false, not, List, [], ◌∷◌, ◌++◌, eqb, length}
use Rattle.std.proofs.Common.{sym, ap, ◌∙◌, inl, inr, arith, eqb-true, eq-eqb}
use Rattle.std.proofs.lemmas.Bool.{eqb-false, not-true}
use Rattle.lists.specs.Choice.{or}
use Rattle.lists.specs.Choice.Laws.{clash, and_true, and_both, or_second, or_true, or_false, or_neither}
use Rattle.lists.specs.Lists.{nonzero, member, distinct, Below}

eqb_sym : (x y : ℕ) → eqb x y ≡ false → eqb y x ≡ false
eqb_sym x y e = go (eqb y x) refl
  where
    go : (t : Bool) → eqb y x ≡ t → eqb y x ≡ false
    go true p = ap (λ (z : ℕ). eqb z x) (eqb-true y x p) ∙ ap (eqb x) (sym (eqb-true y x p)) ∙ e
    go false p = p

-- ---- members
pub member_head : (x : ℕ) (l : List ℕ) → member x (x ∷ l) ≡ true
unfolding member or
member_head x l = rw (eq-eqb x x refl)

pub member_tail : (x y : ℕ) (l : List ℕ) → member x l ≡ true → member x (y ∷ l) ≡ true
unfolding member
member_tail x y l e = or_second (eqb y x) e

pub member_cases : (x y : ℕ) (l : List ℕ) → member x (y ∷ l) ≡ true → (y ≡ x) ⊎ (member x l ≡ true)
unfolding member
member_cases x y l e = elim (or_true (eqb y x) (member x l) e) [ inl p ↦ inl (eqb-true y x p) | inr p ↦ inr p ]

-- ---- one more element somewhere in a list
pub data Inserted (x : ℕ) : List ℕ → List ℕ → Type 0 where
  here : {l : List ℕ} → Inserted x l (x ∷ l)
  there : {y : ℕ} {l k : List ℕ} → Inserted x l k → Inserted x (y ∷ l) (y ∷ k)

pub inserted_length : {x : ℕ} {l k : List ℕ} → Inserted x l k → length k ≡ suc (length l)
inserted_length here = refl
inserted_length (there I) = ap suc (inserted_length I)

or_exchange : (a b c : Bool) → or a (or b c) ≡ or b (or a c)
unfolding or
or_exchange true true c = refl
or_exchange true false c = refl
or_exchange false true c = refl
or_exchange false false c = refl

pub inserted_member : {x : ℕ} {l k : List ℕ} (z : ℕ) → Inserted x l k → member z k ≡ member z (x ∷ l)
unfolding member
inserted_member z here = refl
inserted_member {x} z (there {y = y} {l = l} I) = ap (or (eqb y z)) (inserted_member z I) ∙ or_exchange (eqb y z) (eqb x z) (member z l)

pub inserted_distinct : {x : ℕ} {l k : List ℕ} → Inserted x l k → distinct l ≡ true → member x l ≡ false → distinct k ≡ true
unfolding distinct member
inserted_distinct here e f = and_both (ap not f) e
inserted_distinct {x} (there {y = y} I) e f =
    let p = and_true _ _ e in
    let q = or_false _ _ f in
    and_both (ap not (inserted_member y I ∙ or_neither (eqb_sym y x q.0) (not-true _ p.0))) (inserted_distinct I p.1 q.1)

-- behind it
inserted_snoc : (l : List ℕ) (x : ℕ) → Inserted x l (l ++ (x ∷ []))
inserted_snoc [] x = here
inserted_snoc (y ∷ l) x = there (inserted_snoc l x)

pub distinct_snoc : (l : List ℕ) (x : ℕ) → distinct l ≡ true → member x l ≡ false → distinct (l ++ (x ∷ [])) ≡ true
distinct_snoc l x = inserted_distinct (inserted_snoc l x)

pub nonzero_snoc : (l : List ℕ) (y : ℕ) → nonzero l ≡ true → nonzero (y ∷ []) ≡ true → nonzero (l ++ (y ∷ [])) ≡ true
unfolding nonzero
nonzero_snoc [] y e f = f
nonzero_snoc (z ∷ l) y e f = let p = and_true (not (eqb z 0)) (nonzero l) e in and_both p.0 (nonzero_snoc l y p.1 f)

-- ---- what holds of each member
pub nonzero_one : (x : ℕ) → nonzero (x ∷ []) ≡ true → 1 ≤ x
unfolding nonzero
nonzero_one x e = go (eqb-false x 0 (not-true (eqb x 0) (and_true _ _ e).0))
  where
    go : (x ≡ 0 → ⊥) → 1 ≤ x
    go h = omega (arith, h)

-- each element is below a bound: each member is
pub below_member : (m x : ℕ) (l : List ℕ) → Below m l → member x l ≡ true → x < m
below_member m x [] h e = clash e (unfold member in refl)
below_member m x (y ∷ l) h e = go (member_cases x y l e) (below_member m x l (λ i. h (suc i)))
  where
    go : (y ≡ x) ⊎ (member x l ≡ true) → (member x l ≡ true → x < m) → x < m
    go (inl p) r = omega (arith, p, h 0)
    go (inr p) r = r p

pub below_cons : (m x : ℕ) (l : List ℕ) → x < m → Below m l → Below m (x ∷ l)
below_cons m x l h b zero = h
below_cons m x l h b (suc i) = b i

pub member_below : (m : ℕ) (l : List ℕ) → 0 < m → ((x : ℕ) → member x l ≡ true → x < m) → Below m l
member_below m [] h f i = h
member_below m (y ∷ l) h f zero = f y (member_head y l)
member_below m (y ∷ l) h f (suc i) = member_below m l h (λ x e. f x (member_tail x y l e)) i

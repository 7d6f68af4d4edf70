-- The sets of a list by their numbers: where one stands that has the list's first in front, and where one without it; and what holds of
-- every set.
use Rattle.std.specs.Prelude.{ℕ, zero, suc, ◌+◌, ◌-◌, ◌<◌, ◌≤◌, ◌≡◌, refl, length}
use Rattle.std.proofs.Common.{sym, ◌∙◌, subst, arith, length-append}
use Rattle.std.proofs.Math.Path.{ap}
use mathlib.Core.List.{List, [], ◌∷◌, map}
use Rattle.std.proofs.Math.Decide.{dec_lt}
use Rattle.std.proofs.Math.ListN.{get_or, length-map, get_or-append}
use Rattle.lists.specs.Lists.Laws.{map_at, get_d_behind}
use Rattle.link_sets.specs.Sets.{sets_of}

pub sets_none : {A : Type 0} (l : List A) → length (sets_of 0 l) ≡ 1
unfolding sets_of
sets_none l = refl

pub sets_of_nothing : (A : Type 0) (k : ℕ) → length (sets_of {A = A} (suc k) []) ≡ 0
unfolding sets_of
sets_of_nothing A k = refl

module _ {A : Type 0} (k : ℕ) (p : A) (l : List A) where
  pub sets_both : length (sets_of (suc k) (p ∷ l)) ≡ length (sets_of k l) + length (sets_of (suc k) l)
  unfolding sets_of
  sets_both = simp (length-append, length-map) (omega arith)

  pub set_with : (i : ℕ) → i < length (sets_of k l) → get_or (sets_of (suc k) (p ∷ l)) i [] ≡ p ∷ get_or (sets_of k l) i []
  unfolding sets_of
  set_with i h = get_or-append (map (p ∷◌) (sets_of k l)) (sets_of (suc k) l) [] i (omega (arith, length-map (sets_of k l) (p ∷◌)))
      ∙ map_at (p ∷◌) (sets_of k l) i [] [] h

  pub set_without : (i : ℕ) → length (sets_of k l) ≤ i
      → get_or (sets_of (suc k) (p ∷ l)) i [] ≡ get_or (sets_of (suc k) l) (i - length (sets_of k l)) []
  unfolding sets_of
  set_without i h =
      let e = length-map (sets_of k l) (p ∷◌) in
      get_d_behind (map (p ∷◌) (sets_of k l)) (sets_of (suc k) l) i [] (omega (arith, e))
      ∙ ap (λ (c : ℕ). get_or (sets_of (suc k) l) (i - c) []) e

-- what holds of the empty set, and of a set with or without the list's first where it holds of what is left, holds of every set
pub set_ind : {A : Type 0} (P : ℕ → List A → List A → Type 0)
    → ((l : List A) → P 0 l [])
    → ((k : ℕ) (p : A) (l s : List A) → P k l s → P (suc k) (p ∷ l) (p ∷ s))
    → ((k : ℕ) (p : A) (l s : List A) → P (suc k) l s → P (suc k) (p ∷ l) s)
    → (k : ℕ) (l : List A) (i : ℕ) → i < length (sets_of k l) → P k l (get_or (sets_of k l) i [])
unfolding sets_of
set_ind P none keep skip zero l zero h = none l
set_ind P none keep skip zero l (suc i) h = absurd (omega arith)
set_ind P none keep skip (suc k) [] i h = absurd (omega arith)
set_ind P none keep skip (suc k) (p ∷ l) i h = elim (dec_lt i (length (sets_of k l))) [
  | yes y ↦ subst (P (suc k) (p ∷ l)) (sym (set_with k p l i y)) (keep k p l _ (set_ind P none keep skip k l i y))
  | no y ↦ subst (P (suc k) (p ∷ l)) (sym (set_without k p l i (omega arith)))
      (skip k p l _ (set_ind P none keep skip (suc k) l (i - length (sets_of k l)) (omega (arith, sets_both k p l, h))))
]

-- every set of k has k
pub set_size : {A : Type 0} (k : ℕ) (l : List A) (i : ℕ) → i < length (sets_of k l) → length (get_or (sets_of k l) i []) ≡ k
set_size = set_ind (λ k l s. length s ≡ k) (λ l. refl) (λ k p l s e. ap suc e) (λ k p l s e. e)

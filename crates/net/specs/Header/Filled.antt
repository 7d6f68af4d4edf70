-- An array filled from a list, element by element.
use Rattle.std.specs.Prelude.{ℕ, zero, suc, ◌+◌, ◌≤◌, ◌<◌, ◌≡◌, refl, List, [], ◌∷◌, ◌++◌, map, length, get_or, take, set}
use Rattle.std.proofs.Common.{sym, ap, ◌∙◌, add-one, arith, take_all, take-suc, take-suc-set}

module _ {A B : Type 0} (f : A → B) where
  map_end : (l : List A) (a : A) → map f (l ++ (a ∷ [])) ≡ map f l ++ (f a ∷ [])
  map_end [] a = refl
  map_end (x ∷ l) a = ap (λ (k : List B). f x ∷ k) (map_end l a)

  pub filled_more : (l : List A) (r : List B) (i : ℕ) (d : A) {b : B}
      → i < length l → i < length r → take i r ≡ map f (take i l) → b ≡ f (get_or l i d) → take (i + 1) (set r i b) ≡ map f (take (i + 1) l)
  filled_more l r i d {b} h k e q =
      ap (λ (j : ℕ). take j (set r i b)) (add-one i) ∙ take-suc-set r i b k
      ∙ (rw (e, q) (sym (map_end (take i l) (get_or l i d))))
      ∙ ap (map f) (sym (take-suc l i d h)) ∙ ap (λ (j : ℕ). map f (take j l)) (sym (add-one i))

  pub filled_all : (l : List A) (r : List B) (i : ℕ)
      → length l ≤ i → length r ≤ i → take i r ≡ map f (take i l) → r ≡ map f l
  filled_all l r i h k e = sym (take_all i r k) ∙ e ∙ ap (map f) (take_all i l h)

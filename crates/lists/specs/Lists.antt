-- Tests on lists of identifiers.
use Rattle.std.specs.Prelude.{Bool, true, false, not, List, [], ◌∷◌, ◌++◌, ℕ, ◌+◌, ◌-◌, ◌<◌, eqb, ltb, leb, length, get_or, replicate}
use Rattle.lists.specs.Choice.{choose, and, or}
pub mod Laws
pub mod Order
pub mod Places
pub mod Same
pub mod Sets
pub mod Zeros
pub mod Sorted
pub mod Sums

-- no element is zero
unfoldable pub nonzero : List ℕ → Bool
nonzero [] = true
nonzero (x ∷ xs) = and (not (eqb x 0)) (nonzero xs)

-- strictly ascending
unfoldable pub ascending : List ℕ → Bool
ascending [] = true
ascending (x ∷ []) = true
ascending (x ∷ (y ∷ l)) = and (ltb x y) (ascending (y ∷ l))

-- every element is below a bound, which is above zero
abbrev pub Below : ℕ → List ℕ → Type 0
Below m l = (i : ℕ) → get_or l i 0 < m

-- a list in an array of so many places, zeros behind
unfoldable pub pad_to : ℕ → List ℕ → List ℕ
pad_to places l = l ++ replicate (places - length l) 0

unfoldable pub member : ℕ → List ℕ → Bool
member x [] = false
member x (y ∷ ys) = or (eqb y x) (member x ys)

-- none twice
unfoldable pub distinct : List ℕ → Bool
distinct [] = true
distinct (x ∷ xs) = and (not (member x xs)) (distinct xs)

-- every element is zero
unfoldable pub zeros : List ℕ → Bool
zeros [] = true
zeros (x ∷ xs) = and (eqb x 0) (zeros xs)

unfoldable pub same_list : List ℕ → List ℕ → Bool
same_list [] [] = true
same_list [] (y ∷ ys) = false
same_list (x ∷ xs) [] = false
same_list (x ∷ xs) (y ∷ ys) = and (eqb x y) (same_list xs ys)

-- sorted, by insertion
unfoldable pub insert : ℕ → List ℕ → List ℕ
insert x [] = x ∷ []
insert x (y ∷ l) = choose (leb x y) (x ∷ (y ∷ l)) (y ∷ insert x l)

unfoldable pub sort : List ℕ → List ℕ
sort [] = []
sort (x ∷ xs) = insert x (sort xs)

unfoldable pub sum_over : {A : Type 0} → List A → (A → ℕ) → ℕ
sum_over [] f = 0
sum_over (x ∷ xs) f = f x + sum_over xs f

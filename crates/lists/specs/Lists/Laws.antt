-- Laws of the tests on lists, as a loop over an index uses them: what the rest from an index on says of the list. Then a list in an array.
use Rattle.std.specs.Prelude.{◌≡◌, refl, Bool, true, false, not, List, [], ◌∷◌, ◌++◌, map, ℕ, zero}
use Rattle.std.specs.Prelude.{suc, ◌+◌, ◌-◌, ◌<◌, ◌≤◌, min, eqb, leb, length, take, drop, get_or, set, replicate}
use Rattle.std.proofs.Common.{sym, ap, ◌∙◌, append_assoc, arith, add-one, lt-ltb, le-ltb, eq-eqb, ne_eqb}
use Rattle.std.proofs.Common.{leb-true, leb-false, length-append, length-drop, length-take}
use Rattle.std.proofs.Common.{drop_of_length-le, drop-cons, take_at, take_all, get_or-take, get_or-append-add}
use Rattle.std.proofs.lemmas.List.{length-map, length-replicate, set_at}
use Rattle.std.proofs.Math.ListN.{get_or-map}
use Rattle.lists.specs.Choice.{and, or}
use Rattle.lists.specs.Lists.{nonzero, ascending, member, distinct, zeros, same_list, pad_to}

-- ---- member
pub member_found : (x : ℕ) (l : List ℕ) (i : ℕ) → i < length l → get_or l i 0 ≡ x → member x (drop i l) ≡ true
unfolding member or
member_found x l i h e = rw (drop-cons l i 0 h, eq-eqb (get_or l i 0) x e)

pub member_next : (x : ℕ) (l : List ℕ) (i : ℕ) → i < length l → (get_or l i 0 ≡ x → ⊥) → member x (drop i l) ≡ member x (drop (i + 1) l)
unfolding member or
member_next x l i h e = rw (drop-cons l i 0 h, ne_eqb (get_or l i 0) x e, add-one)

pub member_end : (x : ℕ) (l : List ℕ) (i : ℕ) → length l ≤ i → member x (drop i l) ≡ false
unfolding member
member_end x l i h = rw (drop_of_length-le l {i = i} h)

-- a list with no zero is one that zero is no member of
pub nonzero_member : (l : List ℕ) → nonzero l ≡ not (member 0 l)
unfolding nonzero member and or
nonzero_member [] = refl
nonzero_member (x ∷ xs) = go (eqb x 0) (nonzero_member xs)
  where
    go : (t : Bool) → nonzero xs ≡ not (member 0 xs) → and (not t) (nonzero xs) ≡ not (or t (member 0 xs))
    go true e = refl
    go false e = e

-- ---- distinct
pub distinct_broken : (l : List ℕ) (i : ℕ) → i < length l → member (get_or l i 0) (drop (i + 1) l) ≡ true → distinct (drop i l) ≡ false
unfolding distinct and
distinct_broken l i h e = rw (drop-cons l i 0 h, ← (add-one i), e)

pub distinct_next : (l : List ℕ) (i : ℕ) → i < length l → member (get_or l i 0) (drop (i + 1) l) ≡ false
    → distinct (drop i l) ≡ distinct (drop (i + 1) l)
unfolding distinct and
distinct_next l i h e = ap distinct (drop-cons l i 0 h) ∙ rw (← (add-one i), e) (rw add-one)

pub distinct_end : (l : List ℕ) (i : ℕ) → length l ≤ i → distinct (drop i l) ≡ true
unfolding distinct
distinct_end l i h = rw (drop_of_length-le l {i = i} h)

-- ---- zeros
pub zeros_broken : (l : List ℕ) (i : ℕ) → i < length l → (get_or l i 0 ≡ 0 → ⊥) → zeros (drop i l) ≡ false
unfolding zeros and
zeros_broken l i h e = rw (drop-cons l i 0 h, ne_eqb (get_or l i 0) 0 e)

pub zeros_next : (l : List ℕ) (i : ℕ) → i < length l → get_or l i 0 ≡ 0 → zeros (drop i l) ≡ zeros (drop (i + 1) l)
unfolding zeros and
zeros_next l i h e = rw (drop-cons l i 0 h, eq-eqb (get_or l i 0) 0 e, add-one)

pub zeros_end : (l : List ℕ) (i : ℕ) → length l ≤ i → zeros (drop i l) ≡ true
unfolding zeros
zeros_end l i h = rw (drop_of_length-le l {i = i} h)

-- ---- same_list
pub same_broken : (l k : List ℕ) (i : ℕ) → i < length l → i < length k → (get_or l i 0 ≡ get_or k i 0 → ⊥)
    → same_list (drop i l) (drop i k) ≡ false
unfolding same_list and
same_broken l k i h g e = rw (drop-cons l i 0 h, drop-cons k i 0 g, ne_eqb (get_or l i 0) (get_or k i 0) e)

pub same_next : (l k : List ℕ) (i : ℕ) → i < length l → i < length k → get_or l i 0 ≡ get_or k i 0
    → same_list (drop i l) (drop i k) ≡ same_list (drop (i + 1) l) (drop (i + 1) k)
unfolding same_list and
same_next l k i h g e = rw (drop-cons l i 0 h, drop-cons k i 0 g, eq-eqb (get_or l i 0) (get_or k i 0) e, add-one)

pub same_end : (l k : List ℕ) (i : ℕ) → length l ≤ i → length k ≤ i → same_list (drop i l) (drop i k) ≡ true
unfolding same_list
same_end l k i h g = rw (drop_of_length-le l {i = i} h, drop_of_length-le k {i = i} g)

pub same_lengths : (l k : List ℕ) → (length l ≡ length k → ⊥) → same_list l k ≡ false
unfolding same_list and
same_lengths [] [] e = absurd (e refl)
same_lengths [] (y ∷ k) e = refl
same_lengths (x ∷ l) [] e = refl
same_lengths (x ∷ l) (y ∷ k) e = rw (same_lengths l k (λ p. e (ap suc p))) (go (eqb x y))
  where
    go : (t : Bool) → and t false ≡ false
    go true = refl
    go false = refl

-- ---- ascending
two_off : (l : List ℕ) (i : ℕ) → i + 1 < length l → drop i l ≡ get_or l i 0 ∷ (get_or l (i + 1) 0 ∷ drop (suc (i + 1)) l)
two_off l i h = drop-cons l i 0 (omega arith) ∙ ap (λ (t : List ℕ). get_or l i 0 ∷ t) (rw (← (add-one i)) (drop-cons l (i + 1) 0 h))

pub ascending_broken : (l : List ℕ) (i : ℕ) → i + 1 < length l → get_or l (i + 1) 0 ≤ get_or l i 0 → ascending (drop i l) ≡ false
unfolding ascending and
ascending_broken l i h e = rw (two_off l i h, le-ltb (get_or l i 0) (get_or l (i + 1) 0) e)

pub ascending_next : (l : List ℕ) (i : ℕ) → i + 1 < length l → get_or l i 0 < get_or l (i + 1) 0
    → ascending (drop i l) ≡ ascending (drop (i + 1) l)
unfolding ascending and
ascending_next l i h e = rw (two_off l i h, lt-ltb (get_or l i 0) (get_or l (i + 1) 0) e, drop-cons l (i + 1) 0 h)

pub ascending_end : (l : List ℕ) (i : ℕ) → length l ≤ i + 1 → ascending (drop i l) ≡ true
unfolding ascending
ascending_end l i h = go (drop i l) (omega (arith, length-drop i l))
  where
    go : (t : List ℕ) → length t ≤ 1 → ascending t ≡ true
    go [] k = refl
    go (x ∷ []) k = refl
    go (x ∷ (y ∷ t)) k = absurd (omega arith)

-- ---- the elements of an array that are in use, each as a value
module _ {A B : Type 0} (f : A → B) (k : ℕ) (l : List A) where
  pub taken_length : length (map f (take k l)) ≡ min k (length l)
  taken_length = length-map (take k l) f ∙ length-take k l

  pub taken_at : (i : ℕ) (none : A) → i < length (map f (take k l)) → f (get_or l i none) ≡ get_or (map f (take k l)) i (f none)
  taken_at i none h = ap f (sym (get_or-take k l i none (omega (arith, taken_length)))) ∙ sym (get_or-map f (take k l) i none)

-- a number of elements that is at most the places is as good as the number itself
pub take_least : {A : Type 0} (n k m : ℕ) (l : List A) → length l ≡ m → k ≡ min n m → take k l ≡ take n l
take_least n k m l e h = cases (leb n m) refl
  where
    cases : (b : Bool) → leb n m ≡ b → take k l ≡ take n l
    cases true q = let p : k ≡ n = omega (arith, leb-true n m q) in ap (λ (j : ℕ). take j l) p
    cases false q = take_all k l (omega (arith, leb-false n m q)) ∙ sym (take_all n l (omega (arith, leb-false n m q)))

-- ---- an element by its place
pub map_at : {A B : Type 0} (f : A → B) (l : List A) (i : ℕ) (a : A) (b : B) → i < length l → get_or (map f l) i b ≡ f (get_or l i a)
map_at f [] i a b h = absurd (omega arith)
map_at f (x ∷ l) zero a b h = refl
map_at f (x ∷ l) (suc i) a b h = map_at f l i a b (omega arith)

-- a place behind a first list is one of the second
pub get_d_behind : {A : Type 0} (l k : List A) (i : ℕ) (d : A) → length l ≤ i → get_or (l ++ k) i d ≡ get_or k (i - length l) d
get_d_behind l k i d h =
    let e : i ≡ length l + (i - length l) = omega arith in
    ap (λ (j : ℕ). get_or (l ++ k) j d) e ∙ get_or-append-add l k (i - length l) d

-- ---- a list in an array
pub length_pad : (places : ℕ) (l : List ℕ) → length l ≤ places → length (pad_to places l) ≡ places
unfolding pad_to
length_pad places l h = omega (arith, length-append l (replicate (places - length l) 0), length-replicate {A = ℕ} (places - length l) 0)

-- its first places hold the list
pub pad_front : (places : ℕ) (l : List ℕ) (k : ℕ) → length l ≡ k → take k (pad_to places l) ≡ l
unfolding pad_to
pad_front places l k e = take_at l (replicate (places - length l) 0) k e

-- the next place is taken
pub pad_next : (places : ℕ) (l : List ℕ) (i x : ℕ) → length l ≡ i → i < places → set (pad_to places l) i x ≡ pad_to places (l ++ (x ∷ []))
unfolding pad_to
pad_next places l i x k h =
    let e : places - length l ≡ suc (places - (i + 1)) = omega (arith, k) in
    let f : places - length (l ++ (x ∷ [])) ≡ places - (i + 1) = omega (arith, length-append l (x ∷ []), k) in
    rw (e, f) (set_at l 0 (replicate (places - (i + 1)) 0) x i k ∙ sym (append_assoc l (x ∷ []) (replicate (places - (i + 1)) 0)))

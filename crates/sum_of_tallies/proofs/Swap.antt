-- The sum of the certified identifiers' tallies, link by link: each link is read once, and each certified identifier counts once
-- for being certified.
use Prim.Native.Nat.{ℕ, suc, ◌+◌, ◌-◌, ◌<◌, ◌≤◌}
use mathlib.Core.Path.{◌≡◌, refl, sym, ap, ◌∙◌}
use mathlib.Core.Bool.{true}
use mathlib.Core.List.{List, [], ◌∷◌}
use native.Mathlib.Numerals.{add-one}
use native.Mathlib.Omega.{arith}
use lib.ListN.{length, take, drop, get_or, length-take, drop_of_length-le}
use lib.Seq.{drop-cons, get_or-take}
use Rattle.lists.specs.Lists.{member, sum_over}
use Rattle.lists.specs.Lists.Places.{member_at}
use Rattle.counting.specs.Counts.{bit_yes}
use Rattle.counting.specs.Sums.{bit, sum}
use Rattle.counting.specs.Sums.Laws.{sum_over_swap}
use Rattle.protocol.specs.declared.Base.{Base}
use Rattle.protocol.specs.Links.{holds_verify}
use Rattle.protocol.specs.Record.{link_at, link_count, links, certified, tally, tally_sum}

-- from a place of a list on: that place, and the rest
pub sum_from : (l : List ℕ) (f : ℕ → ℕ) (j : ℕ) → j < length l → sum_over (drop j l) f ≡ f (get_or l j 0) + sum_over (drop (j + 1) l) f
unfolding sum_over
sum_from l f j h = rw (drop-cons l j 0 h, add-one)

-- over the first count of a list: none from place count on, and what one place more in front adds
pub sum_end : (ids : List ℕ) (count : ℕ) (f : ℕ → ℕ) → sum_over (drop count (take count ids)) f ≡ 0
unfolding sum_over
sum_end ids count f = rw (drop_of_length-le (take count ids) {i = count} (omega (arith, length-take count ids)))

pub sum_back : (ids : List ℕ) (count j total term : ℕ) (f : ℕ → ℕ)
    → 0 < j → j ≤ count → count ≤ length ids → total ≡ sum_over (drop j (take count ids)) f → term ≡ f (get_or ids (j - 1) 0)
    → total + term ≡ sum_over (drop (j - 1) (take count ids)) f
sum_back ids count j total term f h most room e t =
    let l = take count ids in
    let back : j - 1 + 1 ≡ j = omega arith in
    let here : get_or l (j - 1) 0 ≡ get_or ids (j - 1) 0 = get_or-take count ids (j - 1) 0 (omega arith) in
    omega (arith, e, t, ap f here, sum_from l f (j - 1) (omega (arith, length-take count ids)), ap (λ (k : ℕ). sum_over (drop k l) f) back)

-- one for each member of a list that all of them are members of
sum_with_members : (all l : List ℕ) (f : ℕ → ℕ)
    → ((i : ℕ) → i < length l → member (get_or l i 0) all ≡ true) → sum_over l (λ g. f g + bit (member g all)) ≡ length l + sum_over l f
unfolding sum_over
sum_with_members all [] f h = refl
sum_with_members all (x ∷ l) f h = let r = sum_with_members all l f (λ i p. h (suc i) (omega arith)) in
    omega (arith, r, bit_yes (h 0 (omega arith)))

pub tally_by_links : (b : Base)
    → tally_sum b ≡ length (certified b) + sum (link_count b) (λ i. sum_over (certified b) (λ g. bit (holds_verify (link_at b i) g)))
unfolding tally_sum tally links
tally_by_links b =
    sum_with_members (certified b) (certified b) (λ g. sum (link_count b) (λ i. bit (holds_verify (link_at b i) g))) (member_at
    (certified b))
    ∙ ap (λ (s : ℕ). length (certified b) + s) (sum_over_swap (certified b) (link_count b) (λ g i. bit (holds_verify (link_at b i) g)))

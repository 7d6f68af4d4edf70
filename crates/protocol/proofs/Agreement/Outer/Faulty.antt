-- The faulty links of a net as a table over its bases: it is symmetric, and its degrees add up to at most twice the number of links named.
use Prim.Native.Nat.{ℕ, suc, ◌+◌, ◌*◌, ◌≤◌}
use Rattle.std.specs.Prelude.{◌≡◌, refl, Bool, true, false, not, List, [], ◌∷◌, eqb, length}
use Rattle.std.proofs.Common.{ap, ap₂, arith}
use Rattle.std.proofs.Math.Nat.{le_refl}
use Rattle.lists.specs.Choice.{and}
use Rattle.lists.specs.Choice.Laws.{or_swap}
use Rattle.counting.specs.Sums.{bit}
use Rattle.counting.specs.Degrees.{total, Symmetric, total_mono, total_add, total_none, edge, edge_total}
use Rattle.protocol.specs.Net.{Pair, joins, good}

unfoldable pub table : List Pair → ℕ → ℕ → ℕ
table faulty x y = bit (not (good faulty (suc x) (suc y)))

-- ---- an entry is zero exactly on a good link
pub good_table : (faulty : List Pair) (x y : ℕ) → good faulty (suc x) (suc y) ≡ true → table faulty x y ≡ 0
unfolding table bit
good_table faulty x y e = rw e

pub table_good : (faulty : List Pair) (x y : ℕ) → table faulty x y ≡ 0 → good faulty (suc x) (suc y) ≡ true
unfolding table
table_good faulty x y e = go (good faulty (suc x) (suc y)) e
  where
    go : (t : Bool) → bit (not t) ≡ 0 → t ≡ true
    go true h = refl
    go false h = absurd (unfold bit in omega arith)

-- ---- symmetric
joins_swap : (p : Pair) (a b : ℕ) → joins p a b ≡ joins p b a
unfolding joins
joins_swap p a b = or_swap (and (eqb p.one a) (eqb p.other b)) (and (eqb p.one b) (eqb p.other a))

good_swap : (faulty : List Pair) (a b : ℕ) → good faulty a b ≡ good faulty b a
unfolding good
good_swap [] a b = refl
good_swap (p ∷ faulty) a b = ap₂ (λ j g. and (not j) g) (joins_swap p a b) (good_swap faulty a b)

pub table_symmetric : (faulty : List Pair) → Symmetric (table faulty)
unfolding table
table_symmetric faulty x y = ap (λ g. bit (not g)) (good_swap faulty (suc x) (suc y))

-- ---- each link named adds two to the degrees
faulty_by_either : (j g : Bool) → bit (not (and (not j) g)) ≤ bit j + bit (not g)
unfolding bit and
faulty_by_either true g = omega arith
faulty_by_either false true = omega arith
faulty_by_either false false = omega arith

pub table_total : (n : ℕ) (faulty : List Pair) → total n (table faulty) ≤ 2 * length faulty
unfolding table good
table_total n [] = omega (arith, total_mono n (λ x y. bit false) (λ x y. 0) (λ x y lx ly. unfold bit in le_refl 0), total_none n)
table_total n (p ∷ faulty) = omega (
  arith,
  total_mono n (table (p ∷ faulty)) (λ x y. named x y + table faulty x y)
      (λ x y lx ly. faulty_by_either (joins p (suc x) (suc y)) (good faulty (suc x) (suc y))),
  total_add n named (table faulty),
  twice,
  table_total n faulty,
)
  where
    named : ℕ → ℕ → ℕ
    named x y = bit (joins p (suc x) (suc y))

    twice : total n named ≤ 2
    twice = unfold joins edge in edge_total n suc (λ x y e. cc) p.one p.other

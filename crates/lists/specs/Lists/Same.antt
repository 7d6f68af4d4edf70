-- The test of two lists for equality holds exactly of equal lists.
use Rattle.std.specs.Prelude.{ℕ, ◌≡◌, refl, true, List, [], ◌∷◌, eqb}
use Rattle.std.proofs.Common.{ap₂, arith, eqb-true, eq-eqb}
use Rattle.lists.specs.Choice.Laws.{and_true, and_both}
use Rattle.lists.specs.Lists.{same_list}

pub same_equal : (v u : List ℕ) → same_list v u ≡ true → v ≡ u
unfolding same_list
same_equal [] [] e = refl
same_equal [] (y ∷ u) e = absurd (let z : ◌≡◌ {A = ℕ} 0 1 = cc in omega arith)
same_equal (x ∷ v) [] e = absurd (let z : ◌≡◌ {A = ℕ} 0 1 = cc in omega arith)
same_equal (x ∷ v) (y ∷ u) e = let p = and_true (eqb x y) (same_list v u) e in ap₂ ◌∷◌ (eqb-true x y p.0) (same_equal v u p.1)

pub same_self : (v : List ℕ) → same_list v v ≡ true
unfolding same_list
same_self [] = refl
same_self (x ∷ v) = and_both (eq-eqb x x refl) (same_self v)

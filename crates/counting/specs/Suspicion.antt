-- Two symmetric tables, faulty links and suspect pairs, where one name is false and one is missing. Each member but three adds to both sums
-- of degrees, so that suspect pairs and faulty links together are at least n - 1.
use Rattle.std.specs.Prelude.{ℕ, ◌+◌, ◌*◌, ◌≤◌, ◌<◌, ◌≡◌, ◌≢◌}
use Rattle.std.proofs.Math.Path.{sym, ap}
use Rattle.std.proofs.Common.{◌∙◌}
use Rattle.std.proofs.Math.Decide.{ℕ_discrete}
use native.Mathlib.Omega.{arith}
use Rattle.counting.specs.Sums.{sum}
use Rattle.counting.specs.Sums.Laws.{sum_mono, sum_cong, sum_term}
use Rattle.counting.specs.Parts.{◌⊞◌, sum-⊞, ones, sum_ones, only, sum_only_one, only_there, only_elsewhere, sum_only}
use Rattle.counting.specs.Degrees.{degree, total, Symmetric}

-- the entries of a column
unfoldable pub column : (ℕ → ℕ → ℕ) → ℕ → ℕ → ℕ
column F y x = F x y

pub sum_column : (n : ℕ) (F : ℕ → ℕ → ℕ) → Symmetric F → (y : ℕ) → sum n (column F y) ≡ degree n F y
unfolding column
sum_column n F same y = sum_cong n (column F y) (F y) (λ x l. same x y)

-- Y has taken a false name at place d, and lacks the true one of Z; both its links there are faulty.
-- Any other x has a suspect pair, or a faulty link to Y or Z; and its pair with d is suspect, or it has a faulty link.
module _ (n : ℕ) (F s : ℕ → ℕ → ℕ) (same : Symmetric F) (Y Z d : ℕ) (Y-in : Y < n) (Z-in : Z < n) (d_in : d < n) (ZY : Z ≢ Y) (d_y : d ≢ Y)
    (Z-faulty : 1 ≤ F Z Y) (d_faulty : 1 ≤ F d Y)
    (some_suspect : (x : ℕ) → x < n → x ≢ Y → x ≢ Z → x ≢ d → 1 ≤ degree n s x + F x Y + F x Z)
    (suspect_false : (x : ℕ) → x < n → x ≢ Y → x ≢ d → 1 ≤ s d x + degree n F x) where
  -- two for each member, against what it adds to the two totals; what Y, Z and d add besides cancels
  abbrev low : ℕ → ℕ
  low = ones ⊞ ones ⊞ only d (degree n s) ⊞ only Y (degree n F) ⊞ only Z (degree n F)

  abbrev high : ℕ → ℕ
  high = degree n s ⊞ s d ⊞ degree n F ⊞ column F Y ⊞ column F Z ⊞ only Y ones ⊞ only Z ones

  point : (x : ℕ) → x < n → Dec (Y ≡ x) → Dec (Z ≡ x) → Dec (d ≡ x) → low x ≤ high x
  unfolding ◌⊞◌ column ones
  point x l (yes p) (yes q) r = absurd (ZY (q ∙ sym p))
  point x l (yes p) (no q) (yes r) = absurd (d_y (r ∙ sym p))
  point x l (yes p) (no q) (no r) = omega (
    arith,
    only_there Y (degree n F) x p,
    only_there Y ones x p,
    only_elsewhere d (degree n s) x r,
    only_elsewhere Z (degree n F) x q,
    ap (λ v. F v Z) p,
    same Y Z,
  )
  point x l (no p) (yes q) (yes r) = omega (
    arith,
    only_elsewhere Y (degree n F) x p,
    only_there Z ones x q,
    only_there d (degree n s) x r,
    only_there Z (degree n F) x q,
    ap (λ v. F v Y) q,
  )
  point x l (no p) (yes q) (no r) = omega (
    arith,
    only_elsewhere Y (degree n F) x p,
    only_there Z ones x q,
    only_elsewhere d (degree n s) x r,
    only_there Z (degree n F) x q,
    ap (λ v. F v Y) q,
  )
  point x l (no p) (no q) (yes r) = omega (
    arith,
    only_elsewhere Y (degree n F) x p,
    only_elsewhere Z (degree n F) x q,
    only_there d (degree n s) x r,
    ap (λ v. F v Y) r,
    sum_term n (F x) Y Y-in,
  )
  point x l (no p) (no q) (no r) = omega (
    arith,
    only_elsewhere Y (degree n F) x p,
    only_elsewhere Z (degree n F) x q,
    only_elsewhere d (degree n s) x r,
    some_suspect x l (λ e. p (sym e)) (λ e. q (sym e)) (λ e. r (sym e)),
    suspect_false x l (λ e. p (sym e)) (λ e. r (sym e)),
  )

  pub suspicion : 2 * n ≤ total n s + total n F + 2
  unfolding total
  suspicion =
      let r : sum n low ≤ sum n high = sum_mono n low high (λ x l. point x l (ℕ_discrete Y x) (ℕ_discrete Z x) (ℕ_discrete d x)) in
      omega (
        arith,
        simp (
          sum-⊞,
          sum_only n d (degree n s) d_in,
          sum_only n Y (degree n F) Y-in,
          sum_only n Z (degree n F) Z-in,
          sum_only_one n Y Y-in,
          sum_only_one n Z Z-in,
          sum_column n F same Y,
          sum_column n F same Z,
          sum_ones,
        ) at r,
      )

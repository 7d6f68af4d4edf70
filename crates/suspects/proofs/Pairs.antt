-- Suspect pairs: one pair, by what its links hold, and the sum over the pairs as two loops, one within the other, make it.
use Prim.Native.Nat.{ℕ, ◌+◌}
use mathlib.Core.Path.{◌≡◌, sym, ap, ◌∙◌}
use mathlib.Core.Bool.{Bool, true, false, not}
use native.Mathlib.Omega.{arith}
use borrow.Author.Tests.{ne_eqb}
use Rattle.lists.specs.Choice.{and, or}
use Rattle.counting.specs.Sums.{sum}
use Rattle.counting.specs.Sums.Laws.{sum_next}
use Rattle.protocol.specs.declared.Link.{Link}
use Rattle.protocol.specs.Links.{announces, holds_verify}
use Rattle.protocol.specs.Record.{suspect_pair}

-- ---- one pair, of links that announce
module _ (a b : Link) (some : a.announce ≡ 0 → ⊥) (other : b.announce ≡ 0 → ⊥) where
  pair_held : suspect_pair a b ≡ or (not (holds_verify a b.announce)) (not (holds_verify b a.announce))
  unfolding suspect_pair announces and
  pair_held = rw (ne_eqb a.announce 0 some, ne_eqb b.announce 0 other)

  pub pair_lacks : holds_verify a b.announce ≡ false → true ≡ suspect_pair a b
  unfolding or
  pair_lacks e = sym (pair_held ∙ ap (λ (t : Bool). or (not t) (not (holds_verify b a.announce))) e)

  pub pair_back : {x : Bool} → holds_verify a b.announce ≡ true → x ≡ holds_verify b a.announce → not x ≡ suspect_pair a b
  unfolding or
  pair_back e p = ap not p ∙ sym (pair_held ∙ ap (λ (t : Bool). or (not t) (not (holds_verify b a.announce))) e)

-- ---- the loops
-- the place i adds its own pair, a term, and its pairs with the j places before it
pub pairs_grow : (f : ℕ → ℕ → ℕ) (g : ℕ → ℕ) (i j start term total : ℕ)
    → start ≡ sum i (λ m. sum m (λ k. f m k)) + sum i g → term ≡ g i → total ≡ start + term + sum j (λ k. f i k) → j ≡ i
    → total ≡ sum (i + 1) (λ m. sum m (λ k. f m k)) + sum (i + 1) g
pairs_grow f g i j start term total s t e q =
    omega (arith, sum_next i (λ m. sum m (λ k. f m k)), sum_next i g, ap (λ (n : ℕ). sum n (λ k. f i k)) q)

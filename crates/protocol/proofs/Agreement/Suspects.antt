-- Laws of suspect pairs as a table over the bases: it is symmetric, its diagonal is
-- empty, and an entry is zero exactly if neither side lacks the other.
use Rattle.std.specs.Prelude.{ℕ, ◌≤◌, ◌≡◌, ◌≢◌, Bool, true, false, not, eqb}
use Rattle.std.proofs.Math.Path.{refl}
use Rattle.std.proofs.Common.{sym, ap, ap₂, ◌∙◌, arith, eq-eqb, ne_eqb}
use Rattle.std.proofs.Math.Decide.{ℕ_discrete}
use Rattle.std.proofs.lemmas.Bool.{not-false}
use Rattle.lists.specs.Choice.{and, or}
use Rattle.lists.specs.Choice.Laws.{or_swap, or_second}
use Rattle.lists.specs.Lists.{member}
use Rattle.counting.specs.Sums.{bit}
use Rattle.counting.specs.Sums.Bounds.{bit_most}
use Rattle.counting.specs.Degrees.{Symmetric}
use Rattle.protocol.specs.Agreement.Views.{View, lacks, suspect}

bit_or_none : (a b : Bool) → bit (or a b) ≡ 0 → a ≡ false
unfolding or bit
bit_or_none true b e = absurd (omega arith)
bit_or_none false b e = refl

module _ (me : ℕ) (b : View) where
  -- ---- what a link lacks
  pub lacks_own : (x y : ℕ) → x ≡ me → lacks me b x y ≡ false
  unfolding lacks and
  lacks_own x y e = rw (eq-eqb x me e)

  pub lacks_other : (x y : ℕ) → x ≢ me → lacks me b x y ≡ not (member (b.named y) (b.verifies x))
  unfolding lacks and
  lacks_other x y ne = rw (ne_eqb x me ne)

  pub lacks_not : (x y : ℕ) → x ≢ me → lacks me b x y ≡ false → member (b.named y) (b.verifies x) ≡ true
  lacks_not x y ne e = not-false (member (b.named y) (b.verifies x)) (sym (lacks_other x y ne) ∙ e)

  -- ---- suspect pairs
  pub suspect_self : (x : ℕ) → suspect me b x x ≡ 0
  unfolding suspect and bit
  suspect_self x = rw (eq-eqb x x refl)

  pub suspect_apart : (x y : ℕ) → x ≢ y → suspect me b x y ≡ bit (or (lacks me b x y) (lacks me b y x))
  unfolding suspect and
  suspect_apart x y ne = rw (ne_eqb x y ne)

  pub suspect_symmetric : Symmetric (suspect me b)
  suspect_symmetric x y = elim (ℕ_discrete x y) [
    | yes e ↦ ap₂ (suspect me b) e (sym e)
    | no e ↦ suspect_apart x y e ∙ ap bit (or_swap (lacks me b x y) (lacks me b y x)) ∙ sym (suspect_apart y x (λ p. e (sym p)))
  ]

  pub suspect_at_most_one : (x y : ℕ) → suspect me b x y ≤ 1
  unfolding suspect
  suspect_at_most_one x y = bit_most (and (not (eqb x y)) (or (lacks me b x y) (lacks me b y x)))

  pub suspect_none : (x y : ℕ) → x ≢ y → suspect me b x y ≡ 0 → lacks me b x y ≡ false
  suspect_none x y ne e = bit_or_none (lacks me b x y) (lacks me b y x) (sym (suspect_apart x y ne) ∙ e)

  pub suspect_lacking : (x y : ℕ) → x ≢ y → lacks me b y x ≡ true → suspect me b x y ≡ 1
  unfolding bit
  suspect_lacking x y ne e = suspect_apart x y ne ∙ rw (or_second (lacks me b x y) e)

  pub suspect_neither : (x y : ℕ) → lacks me b x y ≡ false → lacks me b y x ≡ false → suspect me b x y ≡ 0
  suspect_neither x y p q = elim (ℕ_discrete x y) [
    | yes e ↦ ap (suspect me b x) (sym e) ∙ suspect_self x
    | no e ↦ suspect_apart x y e ∙ ap₂ (λ u w. bit (or u w)) p q ∙ none
  ]
    where
      none : bit (or false false) ≡ 0
      none = unfold or bit in refl

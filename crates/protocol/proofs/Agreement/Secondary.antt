-- Safety of the secondary check: a list that nobody has decided reaches a tally of at most t. On a good link it can only stand as a
-- Verify-Final, and whoever sent that held two Correct-Finals of a list that nobody decided, both on faulty links.
use Rattle.std.specs.Prelude.{ℕ, ◌≤◌, ◌<◌, ◌≡◌, refl, ◌≢◌, ◌⊎◌, false, List, eqb}
use Rattle.std.proofs.Common.{sym, ap, ◌∙◌, eq-eqb, ne_eqb}
use Rattle.std.proofs.Math.Logic.{inl, inr}
use Rattle.std.proofs.Math.Bool.{true}
use Rattle.std.proofs.Math.Decide.{ℕ_discrete}
use native.Mathlib.Omega.{arith}
use Rattle.lists.specs.Choice.Laws.{or_first, or_second, or_true, clash}
use Rattle.counting.specs.Counts.{count_below}
use Rattle.counting.specs.Degrees.{degree}
use Rattle.counting.specs.Spread.{TouchedBy, spread}
use Rattle.protocol.proofs.Agreement.Cases.{zero_or_more}
use Rattle.protocol.specs.Agreement.Views.{View, corrects, holds_of, tally_of}
use Rattle.protocol.specs.Agreement.Invariant.{Premises}

-- ---- a list held on a link
pub held_cases : (b : View) (v : List ℕ) (x : ℕ) → holds_of b v x ≡ true → (b.correct x v ≡ true) ⊎ (b.vote x v ≡ true)
unfolding holds_of
held_cases b v x e = or_true (b.correct x v) (b.vote x v) e

pub correct_held : (b : View) (v : List ℕ) (x : ℕ) → b.correct x v ≡ true → holds_of b v x ≡ true
unfolding holds_of
correct_held b v x e = or_first (b.vote x v) e

pub vote_held : (b : View) (v : List ℕ) (x : ℕ) → b.vote x v ≡ true → holds_of b v x ≡ true
unfolding holds_of
vote_held b v x e = or_second (b.correct x v) e

-- Decided x v: base x has stopped with v; Voted x v: base x has broadcast Verify-Final v
module _ (n t : ℕ) (faulty : ℕ → ℕ → ℕ) (id : ℕ → ℕ) (truth : List ℕ) (P : Premises n t faulty id truth) (base : ℕ → View)
    (Decided Voted : ℕ → List ℕ → Type 0)
    (own_correct : (x : ℕ) (v : List ℕ) → x < n → (base x).correct x v ≡ false)
    (own_vote : (x : ℕ) (v : List ℕ) → x < n → (base x).vote x v ≡ false)
    (heard_correct : (y x : ℕ) (v : List ℕ) → y < n → x < n → x ≢ y → faulty x y ≡ 0 → (base y).correct x v ≡ true → Decided x v)
    (heard_vote : (y x : ℕ) (v : List ℕ) → y < n → x < n → x ≢ y → faulty x y ≡ 0 → (base y).vote x v ≡ true → Voted x v)
    (vote_backed : (x : ℕ) (v : List ℕ) → x < n → Voted x v → 2 ≤ corrects n (base x) v)
    (v : List ℕ) (undecided : (x : ℕ) → x < n → Decided x v → ⊥) where
  -- whoever sent a Verify-Final of it has two faulty links
  pub voter_faulty : (x : ℕ) → x < n → Voted x v → 2 ≤ degree n faulty x
  unfolding corrects
  voter_faulty x l voted = omega (arith, vote_backed x v l voted, count_below n (λ a. (base x).correct a v) (faulty x) on_faulty)
    where
      on_faulty : (a : ℕ) → a < n → (base x).correct a v ≡ true → 1 ≤ faulty x a
      on_faulty a k h = elim (zero_or_more (faulty x a)) [
        | inr f ↦ f
        | inl good ↦ elim (ℕ_discrete a x) [
          | yes e ↦ clash (ap (λ z. (base x).correct z v) (sym e) ∙ h) (own_correct x v l)
          | no e ↦ absurd (undecided a k (heard_correct x a v l k e (P.symmetric a x ∙ good) h))
        ]
      ]

  pub undecided_tally : (Y : ℕ) → Y < n → tally_of n (base Y) v ≤ t
  unfolding tally_of
  undecided_tally Y Y-in = omega (
    arith,
    P.few_faulty,
    spread n faulty P.symmetric (eqb Y) (holds_of (base Y) v) (λ x l h. (ne_eqb Y x (away x h), reached x l h)),
  )
    where
      away : (x : ℕ) → holds_of (base Y) v x ≡ true → Y ≢ x
      away x h e = elim (held_cases (base Y) v x h) [
        | inl c ↦ clash (ap (λ z. (base Y).correct z v) e ∙ c) (own_correct Y v Y-in)
        | inr c ↦ clash (ap (λ z. (base Y).vote z v) e ∙ c) (own_vote Y v Y-in)
      ]

      reached : (x : ℕ) → x < n → holds_of (base Y) v x ≡ true → TouchedBy n faulty (eqb Y) x
      reached x l h = elim (zero_or_more (faulty x Y)) [
        | inr f ↦ inr (Y, Y-in, eq-eqb Y Y refl, f)
        | inl good ↦ elim (held_cases (base Y) v x h) [
          | inl c ↦ absurd (undecided x l (heard_correct Y x v Y-in l (λ e. away x h (sym e)) good c))
          | inr c ↦ inl (voter_faulty x l (heard_vote Y x v Y-in l (λ e. away x h (sym e)) good c))
        ]
      ]

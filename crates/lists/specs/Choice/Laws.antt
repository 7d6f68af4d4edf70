-- Laws of choices: what holds of both ways holds of the choice, and what a chain of checks that gives no number tells.
use Rattle.std.specs.Prelude.{ℕ, suc, ◌≡◌, refl, ◌⊎◌, Bool, true, false, eqb}
use Rattle.std.proofs.Math.Path.{sym}
use Rattle.std.proofs.Common.{◌∙◌, inl, inr, arith, eq-eqb, ne_eqb, eqb-true}
use Rattle.std.proofs.lemmas.Bool.{eqb-false}
use Rattle.lists.specs.Choice.{choose, and, or, first}

-- ---- choose
pub choose_yes : {A : Type 0} {t : Bool} (a b : A) → t ≡ true → choose t a b ≡ a
unfolding choose
choose_yes a b e = rw e

pub choose_no : {A : Type 0} {t : Bool} (a b : A) → t ≡ false → choose t a b ≡ b
unfolding choose
choose_no a b e = rw e

-- the same, of a value that is to be the choice
pub chosen_yes : {A : Type 0} {t : Bool} {x a : A} (b : A) → t ≡ true → x ≡ a → x ≡ choose t a b
chosen_yes {a = a} b e p = p ∙ sym (choose_yes a b e)

pub chosen_no : {A : Type 0} {t : Bool} {x b : A} (a : A) → t ≡ false → x ≡ b → x ≡ choose t a b
chosen_no {b = b} a e p = p ∙ sym (choose_no a b e)

pub choose_ind : {A : Type 0} (P : A → Type 0) (t : Bool) {a b : A} → (t ≡ true → P a) → (t ≡ false → P b) → P (choose t a b)
unfolding choose
choose_ind P true f g = f refl
choose_ind P false f g = g refl

pub choose_same : {A : Type 0} (t : Bool) {a b c d : A} → (t ≡ true → a ≡ c) → (t ≡ false → b ≡ d) → choose t a b ≡ choose t c d
unfolding choose
choose_same true f g = f refl
choose_same false f g = g refl

-- ---- a test has one value
pub clash : {A : Type 0} {t : Bool} → t ≡ true → t ≡ false → A
clash p q = absurd (let z : ◌≡◌ {A = ℕ} 0 1 = cc in omega arith)

-- ---- and, or
pub and_true : (a b : Bool) → and a b ≡ true → (a ≡ true) × (b ≡ true)
unfolding and
and_true true b e = (refl, e)
and_true false b e = absurd (let z : ◌≡◌ {A = ℕ} 0 1 = cc in omega arith)

-- a chain of tests, each decided before the next is looked at
pub and_fails : {a : Bool} (b : Bool) → a ≡ false → false ≡ and a b
unfolding and
and_fails b e = rw e

pub and_goes_on : {a x b : Bool} → a ≡ true → x ≡ b → x ≡ and a b
unfolding and
and_goes_on e p = rw e p

pub and_both : {a b : Bool} → a ≡ true → b ≡ true → and a b ≡ true
unfolding and
and_both p q = rw (p, q)

pub and_no : (a : Bool) → and a false ≡ false
unfolding and
and_no true = refl
and_no false = refl

pub or_first : {a : Bool} (b : Bool) → a ≡ true → or a b ≡ true
unfolding or
or_first b e = rw e

pub or_second : (a : Bool) {b : Bool} → b ≡ true → or a b ≡ true
unfolding or
or_second true e = refl
or_second false e = e

pub or_swap : (a b : Bool) → or a b ≡ or b a
unfolding or
or_swap true true = refl
or_swap true false = refl
or_swap false true = refl
or_swap false false = refl

pub or_true : (a b : Bool) → or a b ≡ true → (a ≡ true) ⊎ (b ≡ true)
unfolding or
or_true true b e = inl refl
or_true false b e = inr e

pub or_false : (a b : Bool) → or a b ≡ false → (a ≡ false) × (b ≡ false)
unfolding or
or_false true b e = absurd (let z : ◌≡◌ {A = ℕ} 0 1 = cc in omega arith)
or_false false b e = (refl, e)

pub or_neither : {a b : Bool} → a ≡ false → b ≡ false → or a b ≡ false
unfolding or
or_neither p q = rw (p, q)

-- ---- checks in a row: a number of at least 1 is given by the first test that holds
pub passed : (t : Bool) (k r : ℕ) → choose t (suc k) r ≡ 0 → (t ≡ false) × (r ≡ 0)
unfolding choose
passed true k r e = absurd (omega arith)
passed false k r e = (refl, e)

pub passes : {t : Bool} (k : ℕ) {r : ℕ} → t ≡ false → r ≡ 0 → choose t k r ≡ 0
unfolding choose
passes k e f = rw e f

pub first_none : {a : ℕ} (b : ℕ) → a ≡ 0 → first a b ≡ b
unfolding first
first_none {a} b e = choose_yes b a (eq-eqb a 0 e)

pub first_given : {a : ℕ} (b : ℕ) → (a ≡ 0 → ⊥) → first a b ≡ a
unfolding first
first_given {a} b e = choose_no b a (ne_eqb a 0 e)

-- a last check that gives none
pub first_last : (a : ℕ) {b : ℕ} → b ≡ 0 → first a b ≡ a
unfolding first
first_last a {b} e = choose_ind (λ (r : ℕ). r ≡ a) (eqb a 0) (λ p. e ∙ sym (eqb-true a 0 p)) (λ _. refl)

-- what comes behind a number matters only where there is none
pub first_same : (a : ℕ) {b c : ℕ} → (a ≡ 0 → b ≡ c) → first a b ≡ first a c
unfolding first
first_same a f = choose_same (eqb a 0) (λ e. f (eqb-true a 0 e)) (λ _. refl)

pub first_assoc : (a b c : ℕ) → first a (first b c) ≡ first (first a b) c
unfolding first
first_assoc a b c = choose_ind (λ (r : ℕ). choose (eqb a 0) (first b c) a ≡ first r c) (eqb a 0)
    (λ e. choose_yes _ _ e ∙ (unfold first in refl)) (λ e. choose_no _ _ e ∙ sym (first_given c (eqb-false a 0 e)))

pub first_passed : (a b : ℕ) → first a b ≡ 0 → (a ≡ 0) × (b ≡ 0)
unfolding first choose
first_passed a b e = go (eqb a 0) refl e
  where
    go : (t : Bool) → eqb a 0 ≡ t → choose t b a ≡ 0 → (a ≡ 0) × (b ≡ 0)
    go true p q = (eqb-true a 0 p, q)
    go false p q = (q, absurd (let z : ◌≡◌ {A = Bool} true false = sym (eq-eqb a 0 q) ∙ p in let y : ◌≡◌ {A = ℕ} 0 1 = cc in omega arith))

-- A message's kind is known, and a kind with as many identifiers as it holds is a message's.
use Rattle.std.specs.Prelude.{ℕ, ◌≤◌, ◌≡◌, refl, ◌⊎◌, Bool, true, false, eqb, length}
use Rattle.std.proofs.Common.{sym, ap, ◌∙◌, inl, inr, arith, eqb-true}
use Rattle.lists.specs.Choice.{choose, or}
use Rattle.lists.specs.Choice.Laws.{or_true, choose_ind, choose_yes, choose_no}
use Rattle.limits.specs.Limits.{frame_bytes}
use Rattle.frame.specs.declared.kind.Shape.{Shape}
use Rattle.frame.specs.declared.kind.Shape.TheVariants.{Known, Unknown}
use Rattle.frame.specs.Message.{Message, announce, verify, correct_final, verify_final, kind_of, holds_one, holds_all, known, expected}
use Rattle.frame.specs.Message.{shape_of, length_of}

pub known_kind : (m : Message) → known (kind_of m) ≡ true
unfolding kind_of known holds_one holds_all or
known_kind (announce g) = refl
known_kind (verify g) = refl
known_kind (correct_final v) = refl
known_kind (verify_final v) = refl

-- the four kinds
abbrev pub Kind : ℕ → Type 0
Kind k = (k ≡ 1) ⊎ ((k ≡ 2) ⊎ ((k ≡ 3) ⊎ (k ≡ 4)))

pub known_is : (k : ℕ) → known k ≡ true → Kind k
unfolding known holds_one holds_all
known_is k e = elim (or_true (or (eqb k 1) (eqb k 2)) (or (eqb k 3) (eqb k 4)) e) [
  | inl p ↦ elim (or_true (eqb k 1) (eqb k 2) p) [ inl q ↦ inl (eqb-true k 1 q) | inr q ↦ inr (inl (eqb-true k 2 q)) ]
  | inr p ↦ elim (or_true (eqb k 3) (eqb k 4) p) [ inl q ↦ inr (inr (inl (eqb-true k 3 q))) | inr q ↦ inr (inr (inr (eqb-true k 4 q))) ]
]

pub expected_range : (kind n most : ℕ) → 1 ≤ n → n ≤ most → (1 ≤ expected kind n) × (expected kind n ≤ most)
unfolding expected
expected_range kind n most low high =
    choose_ind (λ (c : ℕ). (1 ≤ c) × (c ≤ most)) (holds_one kind) (λ _. (omega arith, omega arith)) (λ _. (low, high))

pub expected_cases : (kind n : ℕ) → (expected kind n ≡ 1) ⊎ (expected kind n ≡ n)
unfolding expected
expected_cases kind n = choose_ind (λ (c : ℕ). (c ≡ 1) ⊎ (c ≡ n)) (holds_one kind) (λ _. inl refl) (λ _. inr refl)

pub length_known : (kind n : ℕ) → known kind ≡ true → length_of kind n ≡ frame_bytes (expected kind n)
unfolding length_of
length_known kind n k = choose_yes (frame_bytes (expected kind n)) 0 k

pub length_unknown : (kind n : ℕ) → known kind ≡ false → length_of kind n ≡ 0
unfolding length_of
length_unknown kind n k = choose_no (frame_bytes (expected kind n)) 0 k

-- ---- what a kind's shape says
variant : Shape → Bool
variant (Known c l) = true
variant Unknown = false

shape_variant : (kind n : ℕ) → variant (shape_of kind n) ≡ known kind
unfolding shape_of choose variant
shape_variant kind n = go (known kind)
  where
    go : (t : Bool) → variant (choose t (Known (expected kind n) (frame_bytes (expected kind n))) Unknown) ≡ t
    go true = refl
    go false = refl

pub shape_unknown : (kind n : ℕ) → shape_of kind n ≡ Unknown → known kind ≡ false
unfolding variant
shape_unknown kind n e = sym (shape_variant kind n) ∙ ap variant e

pub shape_known : (kind n : ℕ) {count length : ℕ} → shape_of kind n ≡ Known count length
    → (known kind ≡ true) × ((count ≡ expected kind n) × (length ≡ frame_bytes (expected kind n)))
unfolding variant shape_of
shape_known kind n {count} {length} e =
    let k : known kind ≡ true = sym (shape_variant kind n) ∙ ap variant e in
    let s : Known (expected kind n) (frame_bytes (expected kind n)) ≡ Known count length =
    sym (choose_yes (Known (expected kind n) (frame_bytes (expected kind n))) Unknown k) ∙ e in
    (k, ((cc), (cc)))

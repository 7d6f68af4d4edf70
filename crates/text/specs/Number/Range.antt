-- A number that was read is at most 4,294,967,295, and a field takes one byte at least.
use Rattle.std.specs.Prelude.{ℕ, ◌+◌, ◌-◌, ◌≤◌, ◌<◌, List, [], ◌∷◌, eqb, ltb, leb, length, get_or, drop}
use Rattle.std.proofs.Common.{arith, leb-true, ltb-false}
use Rattle.lists.specs.Choice.{and}
use Rattle.lists.specs.Choice.Laws.{choose_ind, and_true}
use Rattle.text.specs.declared.number.Number.{Number}
use Rattle.text.specs.declared.number.Number.TheVariants.{Value, Bad}
use Rattle.text.specs.Number.{most_number, is_digit, with_digit, digits_from, number_from, number_at, closed, field_at}

-- what is read at position p: a number within its range, and a position from p on
abbrev pub NumberRange : ℕ → Number → Type 0
NumberRange p Bad = Unit {0}
NumberRange p (Value v q) = (v ≤ most_number) × (p ≤ q)

further : (p : ℕ) (x : Number) → NumberRange (p + 1) x → NumberRange p x
further p Bad h = tt
further p (Value v q) h = (h.0, omega (arith, h.1))

digits_within : (rest : List ℕ) (v p : ℕ) → v ≤ most_number → NumberRange p (digits_from rest v p)
unfolding digits_from
digits_within [] v p h = (h, omega arith)
digits_within (b ∷ rest) v p h =
    choose_ind (NumberRange p) (is_digit b)
    (λ _. choose_ind (NumberRange p) (ltb most_number (with_digit v b)) (λ _. tt)
    (λ e. further p (digits_from rest (with_digit v b) (p + 1))
    (digits_within rest (with_digit v b) (p + 1) (ltb-false most_number (with_digit v b) e))))
    (λ _. (h, omega arith))

number_within : (rest : List ℕ) (p : ℕ) → NumberRange p (number_from rest p)
unfolding number_from is_digit
number_within [] p = tt
number_within (b ∷ rest) p =
    choose_ind (NumberRange p) (and (leb 48 b) (leb b 57))
    (λ d. choose_ind (NumberRange p) (eqb b 48) (λ _. (omega arith, omega arith))
    (λ _. further p (digits_from rest (b - 48) (p + 1))
    (digits_within rest (b - 48) (p + 1) (omega (arith, leb-true b 57 (and_true (leb 48 b) (leb b 57) d).1)))))
    (λ _. tt)

-- the same, with the byte that closes the field
abbrev pub Field : ℕ → Number → Type 0
Field p Bad = Unit {0}
Field p (Value v q) = (v ≤ most_number) × (p < q)

closed_within : (s : List ℕ) (close p : ℕ) (x : Number) → NumberRange p x → Field p (closed s close x)
unfolding closed
closed_within s close p Bad h = tt
closed_within s close p (Value v q) h =
    choose_ind (Field p) (and (ltb q (length s)) (eqb (get_or s q 0) close)) (λ _. (h.0, omega (arith, h.1))) (λ _. tt)

pub field_within : (s : List ℕ) (p close : ℕ) → Field p (field_at s p close)
unfolding field_at number_at
field_within s p close = closed_within s close p (number_from (drop p s) p) (number_within (drop p s) p)

-- Bytes in hexadecimal that were read: no more than a burst may have, each below 256, and two digits of the text for each.
use Rattle.std.specs.Prelude.{ℕ, zero, suc, ◌+◌, ◌*◌, ◌-◌, ◌≤◌, ◌<◌, List, [], ◌∷◌, eqb, ltb, leb, length, drop}
use Rattle.std.proofs.Common.{arith, leb-true, ltb-false}
use Rattle.limits.specs.Limits.{longest_forgery}
use Rattle.lists.specs.Choice.{and}
use Rattle.lists.specs.Choice.Laws.{choose_ind, and_true}
use Rattle.lists.specs.Lists.{Below}
use Rattle.hexadecimal.specs.declared.Hex.{Hex}
use Rattle.hexadecimal.specs.declared.Hex.TheVariants.{Bytes, Bad}
use Rattle.hexadecimal.specs.Hex.{is_hex, hex_digit, hex_pair, hex_from, at_most_forgery, hex_at, hex_bytes}

-- the walk over a rest of m bytes at position p, k bytes being counted: how many more it counted, and how far it went
abbrev pub Walked : ℕ → ℕ → ℕ → Hex → Type 0
Walked m k p Bad = Unit {0}
Walked m k p (Bytes count q) = (p < q) × ((k ≤ count) × (2 * (count - k) ≤ m))

walked : (rest : List ℕ) (k p : ℕ) → Walked (length rest) k p (hex_from rest k p)
unfolding hex_from
walked [] k p = tt
walked (a ∷ []) k p = choose_ind (Walked 1 k p) (eqb a 10) (λ _. (omega arith, (omega arith, omega arith))) (λ _. tt)
walked (a ∷ (b ∷ rest)) k p =
    choose_ind (Walked (suc (suc (length rest))) k p) (eqb a 10) (λ _. (omega arith, (omega arith, omega arith)))
    (λ _. choose_ind (Walked (suc (suc (length rest))) k p) (and (is_hex a) (is_hex b))
    (λ _. more (hex_from rest (k + 1) (p + 2)) (walked rest (k + 1) (p + 2))) (λ _. tt))
  where
    more : (x : Hex) → Walked (length rest) (k + 1) (p + 2) x → Walked (suc (suc (length rest))) k p x
    more Bad h = tt
    more (Bytes count q) h = (omega (arith, h.0), (omega (arith, h.1.0), omega (arith, h.1.0, h.1.1)))

-- at position p of a text
abbrev pub HexRange : List ℕ → ℕ → Hex → Type 0
HexRange s p Bad = Unit {0}
HexRange s p (Bytes count q) = (p < q) × ((count ≤ longest_forgery) × (2 * count ≤ length (drop p s)))

limited : (s : List ℕ) (p : ℕ) (x : Hex) → Walked (length (drop p s)) 0 p x → HexRange s p (at_most_forgery x)
unfolding at_most_forgery
limited s p Bad h = tt
limited s p (Bytes count q) h =
    choose_ind (HexRange s p) (ltb longest_forgery count) (λ _. tt)
    (λ e. (h.0, (ltb-false longest_forgery count e, omega (arith, h.1.0, h.1.1))))

pub hex_burst : (s : List ℕ) (p : ℕ) → HexRange s p (hex_at s p)
unfolding hex_at
hex_burst s p = limited s p (hex_from (drop p s) 0 p) (walked (drop p s) 0 p)

-- ---- each byte is below 256
digit_below : (b : ℕ) → hex_digit b < 16
unfolding hex_digit
digit_below b =
    choose_ind (λ (d : ℕ). d < 16) (and (leb 48 b) (leb b 57)) (λ e. omega (arith, leb-true b 57 (and_true (leb 48 b) (leb b 57) e).1))
    (λ _. choose_ind (λ (d : ℕ). d < 16) (and (leb 97 b) (leb b 102))
    (λ e. omega (arith, leb-true b 102 (and_true (leb 97 b) (leb b 102) e).1)) (λ _. omega arith))

pub bytes_below : (k : ℕ) (rest : List ℕ) → Below 256 (hex_bytes k rest)
unfolding hex_bytes hex_pair
bytes_below zero rest i = omega arith
bytes_below (suc k) [] i = omega arith
bytes_below (suc k) (a ∷ []) i = omega arith
bytes_below (suc k) (a ∷ (b ∷ rest)) zero = omega (arith, digit_below a, digit_below b)
bytes_below (suc k) (a ∷ (b ∷ rest)) (suc i) = bytes_below k rest i

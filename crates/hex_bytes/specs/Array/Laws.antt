-- Laws of bytes in hexadecimal, one by one and in their array.
use Rattle.std.specs.Prelude.{ℕ, zero, suc, ◌+◌, ◌*◌, ◌-◌, ◌/◌, ◌≤◌, ◌<◌, min, ◌≡◌}
use Rattle.std.specs.Prelude.{refl, List, [], ◌∷◌, ◌++◌, length, get_or, drop, take, set, replicate}
use Rattle.std.proofs.Common.{sym, ap, ap₂, ◌∙◌, arith, add-one, length-drop, get_or-drop}
use Rattle.limits.specs.Limits.{longest_forgery}
use Rattle.lists.specs.Lists.{pad_to}
use Rattle.lists.specs.Lists.Laws.{length_pad, pad_front, pad_next}
use Rattle.hexadecimal.specs.Hex.{hex_pair, hex_bytes}
use Rattle.hex_bytes.specs.Array.{hex_array}

-- ---- the bytes one by one
length_bytes : (k : ℕ) (rest : List ℕ) → 2 * k ≤ length rest → length (hex_bytes k rest) ≡ k
unfolding hex_bytes
length_bytes zero rest h = refl
length_bytes (suc k) [] h = absurd (omega arith)
length_bytes (suc k) (a ∷ []) h = absurd (omega arith)
length_bytes (suc k) (a ∷ (b ∷ rest)) h = ap suc (length_bytes k rest (omega arith))

bytes_more : (k : ℕ) (rest : List ℕ) → 2 * k + 2 ≤ length rest
    → hex_bytes (suc k) rest ≡ hex_bytes k rest ++ (hex_pair (get_or rest (2 * k) 0) (get_or rest (2 * k + 1) 0) ∷ [])
unfolding hex_bytes
bytes_more k [] h = absurd (omega arith)
bytes_more k (a ∷ []) h = absurd (omega arith)
bytes_more zero (a ∷ (b ∷ rest)) h = refl
bytes_more (suc k) (a ∷ (b ∷ rest)) h =
    let e : 2 * suc k ≡ suc (suc (2 * k)) = omega arith in
    let f : 2 * suc k + 1 ≡ suc (suc (2 * k + 1)) = omega arith in
    ap (λ (l : List ℕ). hex_pair a b ∷ l)
    (bytes_more k rest (omega arith)
    ∙ ap₂ (λ (i j : ℕ). hex_bytes k rest ++ (hex_pair (get_or (a ∷ (b ∷ rest)) i 0) (get_or (a ∷ (b ∷ rest)) j 0) ∷ [])) (sym e) (sym f))

bytes_there : (m k : ℕ) (rest : List ℕ) → k ≤ m → (k < m → length rest < 2 * k + 2) → hex_bytes m rest ≡ hex_bytes k rest
unfolding hex_bytes
bytes_there zero zero rest l h = refl
bytes_there zero (suc k) rest l h = absurd (omega arith)
bytes_there (suc m) zero [] l h = refl
bytes_there (suc m) zero (a ∷ []) l h = refl
bytes_there (suc m) zero (a ∷ (b ∷ rest)) l h = absurd (omega (arith, h (omega arith)))
bytes_there (suc m) (suc k) [] l h = refl
bytes_there (suc m) (suc k) (a ∷ []) l h = refl
bytes_there (suc m) (suc k) (a ∷ (b ∷ rest)) l h =
    ap (λ (r : List ℕ). hex_pair a b ∷ r) (bytes_there m k rest (omega arith) (λ q. omega (arith, h (omega arith))))

-- ---- in their array
-- what the array holds after i bytes
pub array_none : (s : List ℕ) (p : ℕ) → replicate longest_forgery 0 ≡ pad_to longest_forgery (hex_bytes 0 (drop p s))
unfolding hex_bytes pad_to
array_none s p = refl

pub array_more : (s : List ℕ) (at i p : ℕ) {array : List ℕ} {x : ℕ} → i < longest_forgery → p ≡ at + 2 * i → p + 2 ≤ length s
    → array ≡ pad_to longest_forgery (hex_bytes i (drop at s)) → x ≡ hex_pair (get_or s p 0) (get_or s (p + 1) 0)
    → set array i x ≡ pad_to longest_forgery (hex_bytes (i + 1) (drop at s))
array_more s at i p {array} {x} l here h e is =
    let first : p ≡ at + 2 * i = here in
    let second : p + 1 ≡ at + (2 * i + 1) = omega arith in
    let byte : hex_pair (get_or (drop at s) (2 * i) 0) (get_or (drop at s) (2 * i + 1) 0) ≡ x =
    ap₂ hex_pair (get_or-drop at s (2 * i) 0 ∙ ap (λ (j : ℕ). get_or s j 0) (sym first))
    (get_or-drop at s (2 * i + 1) 0 ∙ ap (λ (j : ℕ). get_or s j 0) (sym second))
    ∙ sym is in
    ap (λ (a : List ℕ). set a i x) e
    ∙ pad_next longest_forgery (hex_bytes i (drop at s)) i x (length_bytes i (drop at s) (omega (arith, length-drop at s))) l
    ∙ ap (pad_to longest_forgery)
    (sym
    (ap (λ (k : ℕ). hex_bytes k (drop at s)) (add-one i) ∙ bytes_more i (drop at s) (omega (arith, length-drop at s))
    ∙ ap (λ (y : ℕ). hex_bytes i (drop at s) ++ (y ∷ [])) byte))

-- after the last of them
pub array_all : (s : List ℕ) (p k end i : ℕ) → end ≡ min (min k longest_forgery) ((length s - p) / 2) → i ≤ end → end ≤ i
    → hex_array s p k ≡ pad_to longest_forgery (hex_bytes i (drop p s))
unfolding hex_array
array_all s p k end i e l h =
    ap (pad_to longest_forgery) (bytes_there (min k longest_forgery) i (drop p s) (omega arith) (λ q. omega (arith, length-drop p s)))

-- the front of the array, where the text has so many bytes
pub hex_front : (s : List ℕ) (p k : ℕ) → k ≤ longest_forgery → 2 * k ≤ length (drop p s) → take k (hex_array s p k) ≡ hex_bytes k (drop p s)
unfolding hex_array
hex_front s p k l h =
    let e : min k longest_forgery ≡ k = omega arith in
    ap (λ (j : ℕ). take k (pad_to longest_forgery (hex_bytes j (drop p s)))) e
    ∙ pad_front longest_forgery (hex_bytes k (drop p s)) k (length_bytes k (drop p s) h)

few_bytes : (k : ℕ) (rest : List ℕ) → length (hex_bytes k rest) ≤ k
unfolding hex_bytes
few_bytes zero rest = omega arith
few_bytes (suc k) [] = omega arith
few_bytes (suc k) (a ∷ []) = omega arith
few_bytes (suc k) (a ∷ (b ∷ rest)) = omega (arith, few_bytes k rest)

pub length_hex : (s : List ℕ) (p k : ℕ) → length (hex_array s p k) ≡ longest_forgery
unfolding hex_array
length_hex s p k =
    length_pad longest_forgery (hex_bytes (min k longest_forgery) (drop p s)) (omega (arith, few_bytes (min k longest_forgery) (drop p s)))

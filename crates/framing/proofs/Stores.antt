-- Four bytes stored at a place, and what a frame's stores come to.
use Prim.Native.Nat.{ℕ, suc, ◌+◌, ◌*◌, ◌-◌, ◌/◌, ◌%◌, ◌≤◌, ◌<◌}
use mathlib.Core.Path.{◌≡◌, refl, ap, ◌∙◌}
use mathlib.Core.List.{List, [], ◌∷◌, ◌++◌, append_assoc}
use native.Mathlib.Numerals.{add-one}
use native.Mathlib.Omega.{arith}
use lib.ListN.{length, take, drop, get_or, set}
use lib.Seq.{sets-eq, take-suc, take-length, length-take-le}
use Rattle.limits.specs.Limits.{frame_bytes}
use Rattle.frame.specs.Encoding.{two_bytes, four_bytes, body, trailer, frame_of, over}
use Rattle.frame.proofs.Encoding.Laws.{length_body, body_snoc, over_then}

pub four_stored : (l : List ℕ) (i a b c d : ℕ) → i + 4 ≤ length l
    → set (set (set (set l i a) (i + 1) b) (i + 2) c) (i + 3) d ≡ take i l ++ ((a ∷ (b ∷ (c ∷ (d ∷ [])))) ++ drop (i + 4) l)
four_stored l i a b c d h =
    let e₁ : i + 1 ≡ suc i = omega arith in
    let e₂ : i + 2 ≡ suc (suc i) = omega arith in
    let e₃ : i + 3 ≡ suc (suc (suc i)) = omega arith in
    rw (e₁, e₂, e₃) (sets-eq (a ∷ (b ∷ (c ∷ (d ∷ [])))) l i h ∙ append_assoc (take i l) (a ∷ (b ∷ (c ∷ (d ∷ [])))) (drop (i + 4) l))

-- one identifier more behind the first i
pub next_stored : (ids output after new : List ℕ) (i : ℕ) → i < length ids → after ≡ over (body (take i ids)) output
    → new ≡ take (4 * i) after ++ (four_bytes (get_or ids i 0) ++ drop (4 * i + 4) after) → new ≡ over (body (take (i + 1) ids)) output
next_stored ids output after new i h p q =
    let e : 4 * i ≡ length (body (take i ids)) = omega (arith, length_body (take i ids), length-take-le i ids (omega arith)) in
    rw (add-one, take-suc ids i 0 h, body_snoc (take i ids) (get_or ids i 0))
    (over_then (body (take i ids)) (four_bytes (get_or ids i 0)) output after new (4 * i) (4 * i + 4) e (unfold four_bytes in refl) p q)

-- the trailer behind the body
pub frame_stored : (kind size : ℕ) (ids output after new : List ℕ) (i : ℕ) → size ≡ frame_bytes (length ids) → i ≡ length ids
    → after ≡ over (body (take i ids)) output
    → new ≡ take (size - 4) after ++ ((kind ∷ (length ids ∷ (size / 256 % 256 ∷ (size % 256 ∷ [])))) ++ drop (size - 4 + 4) after)
    → new ≡ over (frame_of kind ids) output
unfolding frame_of trailer two_bytes
frame_stored kind size ids output after new i e h p q =
    let a : after ≡ over (body ids) output =
    p ∙ ap (λ (l : List ℕ). over (body l) output) (ap (λ (k : ℕ). take k ids) h ∙ take-length ids) in
    let k : frame_bytes (length ids) - 4 ≡ length (body ids) = omega (arith, length_body ids) in
    over_then (body ids) (trailer kind (length ids)) output after new (frame_bytes (length ids) - 4) (frame_bytes
    (length ids) - 4 + 4) k refl
    a (rw e at q)

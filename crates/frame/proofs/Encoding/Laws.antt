-- Sizes of frames, and bytes over an output.
use Rattle.std.specs.Prelude.{ℕ, ◌+◌, ◌*◌, ◌-◌, ◌≤◌, ◌≡◌, refl, List, [], ◌∷◌, ◌++◌, length, take, drop}
use Rattle.std.proofs.Common.{sym, ap, ◌∙◌, append_assoc, append-nil, arith}
use Rattle.std.proofs.Common.{length-append, length-drop, drop_of_length-le, take_at, drop_at, drop-drop, take_all}
use Rattle.limits.specs.Limits.{frame_bytes}
use Rattle.frame.specs.Encoding.{two_bytes, four_bytes, body, trailer, frame_of, over}

pub length_body : (xs : List ℕ) → length (body xs) ≡ 4 * length xs
unfolding body four_bytes
length_body [] = refl
length_body (x ∷ xs) = omega (arith, length_body xs)

pub length_frame : (kind : ℕ) (ids : List ℕ) → length (frame_of kind ids) ≡ frame_bytes (length ids)
unfolding frame_of trailer two_bytes
length_frame kind ids = omega (arith, length-append (body ids) (trailer kind (length ids)), length_body ids)

pub body_snoc : (xs : List ℕ) (x : ℕ) → body (xs ++ (x ∷ [])) ≡ body xs ++ four_bytes x
unfolding body
body_snoc [] x = append-nil (four_bytes x)
body_snoc (y ∷ ys) x = ap (λ (l : List ℕ). four_bytes y ++ l) (body_snoc ys x) ∙ sym (append_assoc (four_bytes y) (body ys) (four_bytes x))

-- ---- bytes over an output
pub over_nothing : (output : List ℕ) → over [] output ≡ output
unfolding over
over_nothing output = refl

pub length_over : (bytes output : List ℕ) → length bytes ≤ length output → length (over bytes output) ≡ length output
unfolding over
length_over bytes output h = omega (arith, length-append bytes (drop (length bytes) output), length-drop (length bytes) output)

-- past what was written the output is as it was
pub over_past : (bytes output : List ℕ) (k : ℕ) → length bytes ≤ k → drop k (over bytes output) ≡ drop k output
unfolding over
over_past bytes output k h =
    let e : k ≡ length bytes + (k - length bytes) = omega arith in
    rw e (sym (drop-drop (k - length bytes) (length bytes) (bytes ++ drop (length bytes) output))
    ∙ ap (drop (k - length bytes)) (drop_at bytes (drop (length bytes) output) (length bytes) refl)
    ∙ drop-drop (k - length bytes) (length bytes) output)

-- bytes stored right behind those at the front
pub over_then : (front back output after new : List ℕ) (k j : ℕ) → k ≡ length front → j ≡ k + length back → after ≡ over front output
    → new ≡ take k after ++ (back ++ drop j after) → new ≡ over (front ++ back) output
unfolding over
over_then front back output after new k j e f p q =
    let t : take k after ≡ front = rw p (take_at front (drop (length front) output) k (sym e)) in
    let d : drop k after ≡ drop (length front) output = rw p (drop_at front (drop (length front) output) k (sym e)) in
    let r : drop j after ≡ drop (length front + length back) output =
    ap (λ (i : ℕ). drop i after) f ∙ sym (drop-drop (length back) k after) ∙ ap (drop (length back)) d
    ∙ drop-drop (length back) (length front) output in
    q ∙ rw (t, r, length-append front back) (sym (append_assoc front back (drop (length front + length back) output)))

-- bytes written into the rest of an output, behind those at its front
pub over_rest : (front back output after rest : List ℕ) (r k : ℕ) → r ≡ length front → k ≡ length after - r → after ≡ over front output
    → rest ≡ over back (take k (drop r after)) → take r after ++ (rest ++ drop k (drop r after)) ≡ over (front ++ back) output
unfolding over
over_rest front back output after rest r k e f p q =
    let t : take r after ≡ front = rw p (take_at front (drop (length front) output) r (sym e)) in
    let d : drop r after ≡ drop (length front) output = rw p (drop_at front (drop (length front) output) r (sym e)) in
    let z : drop k (drop r after) ≡ [] = drop_of_length-le (drop r after) {i = k} (omega (arith, length-drop r after)) in
    let y : take k (drop r after) ≡ drop r after = take_all k (drop r after) (omega (arith, length-drop r after)) in
    rw (z, q, y, t, d, append-nil, drop-drop (length back) (length front) output, length-append front back)
    (sym (append_assoc front back (drop (length front + length back) output)))

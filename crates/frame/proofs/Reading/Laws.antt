-- What stands in a burst that is a preamble and a frame, and what a burst that is not turned down is made of.
use Rattle.std.specs.Prelude.{ℕ, zero, suc, ◌+◌, ◌*◌, ◌-◌, ◌/◌, ◌%◌, ◌^◌, ◌≤◌, ◌<◌, ◌≡◌, true, false, eqb, ltb, get_or}
use Rattle.std.proofs.Math.Path.{refl, sym, ap, ap₂}
use Rattle.std.proofs.Common.{◌∙◌, inl, inr, add-zero, mod-eq_of_lt, eq-eqb, ne_eqb, ltb-false, eqb-true}
use Rattle.std.proofs.Common.{length-append, length-take, length-drop, take-append-drop, drop_of_length-le}
use Rattle.std.proofs.Common.{drop-cons, drop-drop, get_or-drop, get_or-take, get_or-append-add}
use Rattle.std.proofs.Math.Bool.{not}
use mathlib.Core.List.{List, [], ◌∷◌, ◌++◌, append_assoc, append-nil}
use Rattle.std.proofs.Math.Nat.{div-div-eq-div-mul, div-add-mod}
use Rattle.std.proofs.Math.Decide.{dec_lt}
use native.Mathlib.Omega.{arith}
use Rattle.std.proofs.lemmas.Bool.{not-false}
use Rattle.std.proofs.Math.ListN.{length, take, drop, get_or-eq_default}
use Rattle.std.proofs.Math.Seq.{take_at, drop_at}
use Rattle.limits.specs.Limits.{most_bases, frame_bytes, shortest_burst, longest_burst}
use Rattle.lists.specs.Choice.{choose, or, first}
use Rattle.lists.specs.Choice.Laws.{choose_yes, choose_no, passes, passed, or_false, first_passed}
use Rattle.lists.specs.Lists.{nonzero, ascending, Below}
use Rattle.limits.specs.Refusals.{NetSize, net_refusal}
use Rattle.limits.specs.Refusals.Laws.{net_passed}
use Rattle.frame.specs.Message.{holds_one, holds_all, known, expected, length_of}
use Rattle.frame.proofs.Message.Laws.{expected_range, expected_cases, length_known}
use Rattle.frame.specs.Encoding.{two_bytes, four_bytes, body, trailer, frame_of}
use Rattle.frame.proofs.Encoding.Laws.{length_body, length_frame}
use Rattle.frame.specs.Reading.{from_end, kind_byte, count_byte, back_distance, body_start, body_of, preamble, identifier, identifiers}
use Rattle.frame.specs.Reading.{ids_in, length_refusal, kind_refusal, distance_refusal, trailer_refusal, list_refusal, burst_refusal}
use Rattle.frame.specs.Reading.{read_refusal}
use Rattle.frame.specs.Reading.Laws.{Framed}

-- ---- bytes and identifiers
pub identifier_of_bytes : (x : ℕ) (rest : List ℕ) → x < 2 ^ 32 → identifier (four_bytes x ++ rest) ≡ x
unfolding identifier four_bytes
identifier_of_bytes x rest h =
    let a : x / 65536 ≡ x / 256 / 256 = sym (div-div-eq-div-mul x 256 256) in
    let b : x / 16777216 ≡ x / 256 / 256 / 256 = sym (div-div-eq-div-mul x 256 65536) ∙ sym (div-div-eq-div-mul (x / 256) 256 256) in
    let c : x / 256 / 256 / 256 < 256 = omega arith in
    rw (a, b, mod-eq_of_lt c)
    (digits x (x / 256) (x / 256 / 256) (x / 256 / 256 / 256) (x % 256) (x / 256 % 256) (x / 256 / 256 % 256)
    (sym (div-add-mod x 256)) (sym (div-add-mod (x / 256) 256)) (sym (div-add-mod (x / 256 / 256) 256)))
  where
    digits : (x y z w a b c : ℕ) → x ≡ 256 * y + a → y ≡ 256 * z + b → z ≡ 256 * w + c → w * 16777216 + c * 65536 + b * 256 + a ≡ x
    digits x y z w a b c p q r = omega arith

pub bytes_of_identifier : (a b c d : ℕ) → a < 256 → b < 256 → c < 256 → d < 256
    → four_bytes (a * 16777216 + b * 65536 + c * 256 + d) ≡ a ∷ (b ∷ (c ∷ (d ∷ [])))
unfolding four_bytes
bytes_of_identifier a b c d p q r s =
    let e₁ : (a * 16777216 + b * 65536 + c * 256 + d) / 16777216 % 256 ≡ a = omega arith in
    let e₂ : (a * 16777216 + b * 65536 + c * 256 + d) / 65536 % 256 ≡ b = omega arith in
    let e₃ : (a * 16777216 + b * 65536 + c * 256 + d) / 256 % 256 ≡ c = omega arith in
    let e₄ : (a * 16777216 + b * 65536 + c * 256 + d) % 256 ≡ d = omega arith in
    rw (e₁, e₂, e₃, e₄)

pub identifiers_of_body : (xs rest : List ℕ) → Below (2 ^ 32) xs → identifiers (length xs) (body xs ++ rest) ≡ xs
unfolding identifiers body
identifiers_of_body [] rest h = refl
identifiers_of_body (x ∷ xs) rest h =
    rw (append_assoc (four_bytes x) (body xs) rest)
    (ap₂ ◌∷◌ (identifier_of_bytes x (body xs ++ rest) (h 0))
    (ap (identifiers (length xs)) (drop_at (four_bytes x) (body xs ++ rest) 4 (unfold four_bytes in refl))
    ∙ identifiers_of_body xs rest (λ i. h (suc i))))

pub length_identifiers : (k : ℕ) (s : List ℕ) → length (identifiers k s) ≡ k
unfolding identifiers
length_identifiers zero s = refl
length_identifiers (suc k) s = ap suc (length_identifiers k (drop 4 s))

-- ---- bytes below a bound, in a part of a list
pub below_drop : (m k : ℕ) (s : List ℕ) → Below m s → Below m (drop k s)
below_drop m k s h i = rw (get_or-drop k s i 0) (h (k + i))

pub below_take : (m k : ℕ) (s : List ℕ) → Below m s → Below m (take k s)
below_take m k s h i = elim (dec_lt i k) [
  | yes p ↦ rw (get_or-take k s i 0 p) (h i)
  | no p ↦ rw (get_or-eq_default (take k s) 0 {n = i} (omega (arith, length-take k s, p))) (omega (arith, h 0))
]

pub below_identifiers : (k : ℕ) (s : List ℕ) → Below 256 s → Below (2 ^ 32) (identifiers k s)
unfolding identifiers
below_identifiers zero s h i = omega arith
below_identifiers (suc k) s h zero = unfold identifier in omega (arith, h 0, h 1, h 2, h 3)
below_identifiers (suc k) s h (suc i) = below_identifiers k (drop 4 s) (below_drop 256 4 s h) i

pub below_from_end : (m k : ℕ) (s : List ℕ) → Below m s → from_end k s < m
unfolding from_end
below_from_end m k s h = h (length s - k)

pub length_ids_in : (s : List ℕ) → length (ids_in s) ≡ count_byte s
unfolding ids_in
length_ids_in s = length_identifiers (count_byte s) (body_of s)

pub below_ids_in : (s : List ℕ) → Below 256 s → Below (2 ^ 32) (ids_in s)
unfolding ids_in body_of
below_ids_in s h =
    below_identifiers (count_byte s) (body_of s) (below_take 256 (4 * count_byte s) (drop (body_start s) s) (below_drop 256
    (body_start s) s h))

-- the bytes of the identifiers that were read
four_off : (s : List ℕ) → 4 ≤ length s → s ≡ get_or s 0 0 ∷ (get_or s 1 0 ∷ (get_or s 2 0 ∷ (get_or s 3 0 ∷ drop 4 s)))
four_off [] h = absurd (omega arith)
four_off (a ∷ []) h = absurd (omega arith)
four_off (a ∷ (b ∷ [])) h = absurd (omega arith)
four_off (a ∷ (b ∷ (c ∷ []))) h = absurd (omega arith)
four_off (a ∷ (b ∷ (c ∷ (d ∷ s)))) h = refl

pub body_of_identifiers : (k : ℕ) (s : List ℕ) → Below 256 s → length s ≡ 4 * k → body (identifiers k s) ≡ s
unfolding body identifiers identifier
body_of_identifiers zero [] h e = refl
body_of_identifiers zero (x ∷ s) h e = absurd (omega arith)
body_of_identifiers (suc k) s h e =
    ap₂ ◌++◌ (bytes_of_identifier (get_or s 0 0) (get_or s 1 0) (get_or s 2 0) (get_or s 3 0) (h 0) (h 1) (h 2) (h 3))
    (body_of_identifiers k (drop 4 s) (below_drop 256 4 s h) (omega (arith, length-drop 4 s)))
    ∙ sym (four_off s (omega arith))

-- ---- the trailer of a preamble and a frame
pub from_end_append : (k : ℕ) (pre s : List ℕ) → k ≤ length s → from_end k (pre ++ s) ≡ from_end k s
unfolding from_end
from_end_append k pre s h =
    let e : length (pre ++ s) - k ≡ length pre + (length s - k) = omega (arith, length-append pre s) in
    rw e (get_or-append-add pre s (length s - k) 0)

module _ (pre : List ℕ) (kind : ℕ) (ids : List ℕ) (few : length ids ≤ most_bases) where
  abbrev burst : List ℕ
  burst = pre ++ frame_of kind ids

  pub length_burst : length burst ≡ length pre + frame_bytes (length ids)
  length_burst = length-append pre (frame_of kind ids) ∙ ap (λ (z : ℕ). length pre + z) (length_frame kind ids)

  from_end_lem : (k : ℕ) → k ≤ 4 → from_end k burst ≡ from_end k (trailer kind (length ids))
  unfolding frame_of trailer two_bytes
  from_end_lem k h =
      ap (from_end k) (sym (append_assoc pre (body ids) (trailer kind (length ids))))
      ∙ from_end_append k (pre ++ body ids) (trailer kind (length ids)) h

  pub kind_is : kind_byte burst ≡ kind
  unfolding kind_byte from_end trailer two_bytes
  kind_is = from_end_lem 4 (omega arith)

  pub count_is : count_byte burst ≡ length ids
  unfolding count_byte from_end trailer two_bytes
  count_is = from_end_lem 3 (omega arith)

  pub back_is : back_distance burst ≡ frame_bytes (length ids)
  unfolding back_distance from_end trailer two_bytes
  back_is = ap₂ (λ (a b : ℕ). a * 256 + b) (from_end_lem 2 (omega arith)) (from_end_lem 1 (omega arith)) ∙ omega arith

  pub start_is : body_start burst ≡ length pre
  unfolding body_start
  start_is = omega (arith, length_burst, back_is)

  pub body_is : body_of burst ≡ body ids
  unfolding body_of frame_of
  body_is =
      ap₂ take (ap (λ (z : ℕ). 4 * z) count_is ∙ sym (length_body ids))
      (ap (λ (z : ℕ). drop z burst) start_is ∙ drop_at pre (body ids ++ trailer kind (length ids)) (length pre) refl)
      ∙ take_at (body ids) (trailer kind (length ids)) (length (body ids)) refl

  pub ids_are : Below (2 ^ 32) ids → ids_in burst ≡ ids
  unfolding ids_in
  ids_are h = ap₂ identifiers count_is (body_is ∙ sym (append-nil (body ids))) ∙ identifiers_of_body ids [] h

-- ---- numbers 8 and 9
pub kind_unknown : (n kind count : ℕ) → known kind ≡ false → kind_refusal n kind count ≡ 8
unfolding kind_refusal
kind_unknown n kind count e = choose_yes 8 _ (ap not e)

module _ (n kind count : ℕ) (k : known kind ≡ true) where
  pub kind_count : (count ≡ expected kind n → ⊥) → kind_refusal n kind count ≡ 9
  unfolding kind_refusal
  kind_count e = choose_no 8 _ (ap not k) ∙ choose_yes 9 0 (ap not (ne_eqb count (expected kind n) e))

  pub kind_passes : count ≡ expected kind n → kind_refusal n kind count ≡ 0
  unfolding kind_refusal
  kind_passes e = passes 8 (ap not k) (passes 9 (ap not (eq-eqb count (expected kind n) e)) refl)

pub kind_passed : (n kind count : ℕ) → kind_refusal n kind count ≡ 0 → (known kind ≡ true) × (count ≡ expected kind n)
unfolding kind_refusal
kind_passed n kind count e =
    let p8 = passed _ 7 _ e in
    (not-false (known kind) p8.0, eqb-true count (expected kind n) (not-false _ (passed _ 8 _ p8.1).0))

-- each kind with the count that it holds
pub announce_kind : (n : ℕ) → kind_refusal n 1 1 ≡ 0
unfolding known holds_one holds_all expected or choose
announce_kind n = kind_passes n 1 1 refl refl

pub verify_kind : (n : ℕ) → kind_refusal n 2 1 ≡ 0
unfolding known holds_one holds_all expected or choose
verify_kind n = kind_passes n 2 1 refl refl

pub correct_final_kind : (n : ℕ) → kind_refusal n 3 n ≡ 0
unfolding known holds_one holds_all expected or choose
correct_final_kind n = kind_passes n 3 n refl refl

pub verify_final_kind : (n : ℕ) → kind_refusal n 4 n ≡ 0
unfolding known holds_one holds_all expected or choose
verify_final_kind n = kind_passes n 4 n refl refl

-- a message of a kind that there is and of its count: its frame's length, and a bound on the count
pub kind_size : (n kind count : ℕ) → kind_refusal n kind count ≡ 0 → length_of kind n ≡ frame_bytes count
kind_size n kind count e = let p = kind_passed n kind count e in length_known kind n p.0 ∙ ap frame_bytes (sym p.1)

pub kind_few : (n kind count most : ℕ) → kind_refusal n kind count ≡ 0 → 1 ≤ most → n ≤ most → count ≤ most
kind_few n kind count most e one all =
    let p = (kind_passed n kind count e).1 in
    elim (expected_cases kind n) [ inl q ↦ omega (arith, p, q) | inr q ↦ omega (arith, p, q) ]

-- ---- what a burst that is not turned down is made of
pub record Passed (n : ℕ) (s : List ℕ) : Type 0 where
  pub long : shortest_burst ≤ length s
  pub short : length s ≤ longest_burst
  pub kind : known (kind_byte s) ≡ true
  pub count : count_byte s ≡ expected (kind_byte s) n
  pub back : back_distance s ≡ frame_bytes (count_byte s)
  pub inside : back_distance s ≤ length s

pub length_passed : (s : List ℕ) → length_refusal s ≡ 0 → (shortest_burst ≤ length s) × (length s ≤ longest_burst)
unfolding length_refusal
length_passed s e =
    let p = or_false (ltb (length s) shortest_burst) (ltb longest_burst (length s)) (passed _ 6 _ e).0 in
    (ltb-false (length s) shortest_burst p.0, ltb-false longest_burst (length s) p.1)

pub distance_passed : (s : List ℕ) → distance_refusal s ≡ 0 → (back_distance s ≡ frame_bytes (count_byte s)) × (back_distance s ≤ length s)
unfolding distance_refusal
distance_passed s e =
    let p = or_false (not (eqb (back_distance s) (frame_bytes (count_byte s)))) (ltb (length s) (back_distance s)) (passed _ 9 _ e).0 in
    (eqb-true (back_distance s) (frame_bytes (count_byte s)) (not-false _ p.0), ltb-false (length s) (back_distance s) p.1)

pub trailer_passed : (n : ℕ) (s : List ℕ) → trailer_refusal n s ≡ 0 → Passed n s
unfolding trailer_refusal
trailer_passed n s e =
    let p = first_passed _ _ e in
    let q = first_passed _ _ p.1 in
    let size = length_passed s p.0 in
    let kind = kind_passed n (kind_byte s) (count_byte s) q.0 in
    let distance = distance_passed s q.1 in
    record {
      long = size.0;
      short = size.1;
      kind = kind.0;
      count = kind.1;
      back = distance.0;
      inside = distance.1;
    }

pub passed_framed : (n : ℕ) (s : List ℕ) → NetSize n → trailer_refusal n s ≡ 0 → Framed s
passed_framed n s N e =
    let P = trailer_passed n s e in
    record {
      long = P.long;
      few = omega (arith, P.count, (expected_range (kind_byte s) n most_bases (omega (arith, N.least)) N.most).1);
      back = P.back;
      inside = P.inside;
    }

pub list_passed : (ids : List ℕ) → list_refusal ids ≡ 0 → (nonzero ids ≡ true) × (ascending ids ≡ true)
unfolding list_refusal
list_passed ids e =
    let p11 = passed _ _ _ e in
    let p12 = passed _ _ _ p11.1 in
    (not-false _ p11.0, not-false _ p12.0)

-- the last four bytes
last_four : (s : List ℕ) → 4 ≤ length s → drop (length s - 4) s ≡ from_end 4 s ∷ (from_end 3 s ∷ (from_end 2 s ∷ (from_end 1 s ∷ [])))
unfolding from_end
last_four s h =
    let e₄ : suc (length s - 4) ≡ length s - 3 = omega arith in
    let e₃ : suc (length s - 3) ≡ length s - 2 = omega arith in
    let e₂ : suc (length s - 2) ≡ length s - 1 = omega arith in
    let z : drop (suc (length s - 1)) s ≡ [] = drop_of_length-le s {i = suc (length s - 1)} (omega arith) in
    drop-cons s (length s - 4) 0 (omega arith) ∙ ap (λ (l : List ℕ). get_or s (length s - 4) 0 ∷ l)
    (ap (λ (k : ℕ). drop k s) e₄ ∙ drop-cons s (length s - 3) 0 (omega arith) ∙ ap (λ (l : List ℕ). get_or s (length s - 3) 0 ∷ l)
    (ap (λ (k : ℕ). drop k s) e₃ ∙ drop-cons s (length s - 2) 0 (omega arith) ∙ ap (λ (l : List ℕ). get_or s (length s - 2) 0 ∷ l)
    (ap (λ (k : ℕ). drop k s) e₂ ∙ drop-cons s (length s - 1) 0 (omega arith) ∙ ap (λ (l : List ℕ). get_or s (length s - 1) 0 ∷ l) z)))

pub length_body_of : (s : List ℕ) → Framed s → length (body_of s) ≡ 4 * count_byte s
unfolding body_of body_start
length_body_of s F =
    omega (arith, F, length-take (4 * count_byte s) (drop (length s - back_distance s) s), length-drop (length s - back_distance s) s)

module _ (s : List ℕ) (bytes : Below 256 s) (F : Framed s) where
  trailer_of : drop (length s - 4) s ≡ trailer (kind_byte s) (count_byte s)
  unfolding trailer two_bytes back_distance kind_byte count_byte
  trailer_of = last_four s (omega (arith, F)) ∙ ap₂ (λ (a b : ℕ). from_end 4 s ∷ (from_end 3 s ∷ (a ∷ (b ∷ [])))) high low
    where
      distance : from_end 2 s * 256 + from_end 1 s ≡ frame_bytes (from_end 3 s)
      distance = F.back

      high : from_end 2 s ≡ frame_bytes (from_end 3 s) / 256 % 256
      high = rw (← distance) (omega (arith, below_from_end 256 2 s bytes, below_from_end 256 1 s bytes))

      low : from_end 1 s ≡ frame_bytes (from_end 3 s) % 256
      low = rw (← distance) (omega (arith, below_from_end 256 1 s bytes))

  pub burst_of : s ≡ preamble s ++ frame_of (kind_byte s) (ids_in s)
  unfolding preamble frame_of ids_in
  burst_of =
      sym (take-append-drop (body_start s) s)
      ∙ ap (λ (l : List ℕ). take (body_start s) s ++ l)
      (sym (take-append-drop (4 * count_byte s) (drop (body_start s) s))
      ∙ ap₂ ◌++◌ front
      (drop-drop (4 * count_byte s) (body_start s) s ∙ ap (λ (k : ℕ). drop k s) end ∙ trailer_of
      ∙ ap (trailer (kind_byte s)) (sym (length_identifiers (count_byte s) (body_of s)))))
    where
      end : body_start s + 4 * count_byte s ≡ length s - 4
      end = unfold body_start in omega (arith, F)

      front : take (4 * count_byte s) (drop (body_start s) s) ≡ body (identifiers (count_byte s) (body_of s))
      front =
          unfold body_of in sym
          (body_of_identifiers (count_byte s) (body_of s)
          (below_take 256 (4 * count_byte s) (drop (body_start s) s) (below_drop 256 (body_start s) s bytes)) (length_body_of s F))

-- ---- identifiers one by one
pub identifier_there : (s : List ℕ) (at : ℕ)
    → get_or s at 0 * 16777216 + get_or s (at + 1) 0 * 65536 + get_or s (at + 2) 0 * 256 + get_or s (at + 3) 0 ≡ identifier (drop at s)
unfolding identifier
identifier_there s at = simp (get_or-drop, add-zero)

pub identifiers_snoc : (i : ℕ) (s : List ℕ) → identifiers (suc i) s ≡ identifiers i s ++ (identifier (drop (4 * i) s) ∷ [])
unfolding identifiers
identifiers_snoc zero s = refl
identifiers_snoc (suc i) s =
    let e : 4 * suc i ≡ 4 + 4 * i = omega arith in
    ap (λ (l : List ℕ). identifier s ∷ l)
    (identifiers_snoc i (drop 4 s)
    ∙ ap (λ (l : List ℕ). identifiers i (drop 4 s) ++ (identifier l ∷ [])) (drop-drop (4 * i) 4 s ∙ ap (λ (k : ℕ). drop k s) (sym e)))

-- ---- a reading that is not turned down
pub read_passed : (n : ℕ) (s : List ℕ) → read_refusal n s ≡ 0 → Framed s
unfolding read_refusal burst_refusal
read_passed n s e =
    let p = first_passed (net_refusal n) (first (trailer_refusal n s) (list_refusal (ids_in s))) e in
    passed_framed n s (net_passed n p.0) (first_passed (trailer_refusal n s) (list_refusal (ids_in s)) p.1).0

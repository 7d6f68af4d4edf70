-- Texts put one behind the other are one text: the law that composes appends.
use Rattle.std.specs.Prelude.{ℕ, suc, ◌+◌, ◌≤◌, ◌<◌, ◌≡◌, refl, true, false, List, [], ◌∷◌, ◌++◌, leb, length, set, take, drop, get_or}
use Rattle.std.proofs.Common.{sym, ap, ◌∙◌, add-zero, add-one, arith, le-leb, length-append, take-suc, take_all}
use Rattle.std.proofs.lemmas.List.Edits.{sets, sets-eq}
use Rattle.std.proofs.Math.Seq.{length-sets}
use Rattle.lists.specs.Choice.Laws.{choose_yes, choose_no}
use Rattle.print.specs.Put.{room_end, room_output, Put}

sets_append : (out : List ℕ) (at : ℕ) (t u : List ℕ) → sets out at (t ++ u) ≡ sets (sets out at t) (at + length t) u
sets_append out at [] u = rw (add-zero at)
sets_append out at (x ∷ t) u = sets_append (set out at x) (suc at) t u
    ∙ ap (λ (k : ℕ). sets (sets (set out at x) (suc at) t) k u) (omega arith)

pub put_none : (out : List ℕ) (at : ℕ) → Put out at [] out at
put_none out at = record { past = sym (add-zero at); is = refl }

-- a text, and another behind it
pub put_then : {out : List ℕ} {at : ℕ} {t o₁ : List ℕ} {p : ℕ} {u o₂ : List ℕ} {q : ℕ}
    → Put out at t o₁ p → Put o₁ p u o₂ q → Put out at (t ++ u) o₂ q
put_then {out} {at} {t} {o₁} {p} {u} {o₂} {q} a b = record {
  past = omega (arith, length-append t u, a.past, b.past);
  is = b.is ∙ ap (λ (l : List ℕ). sets l p u) a.is ∙ ap (λ (k : ℕ). sets (sets out at t) k u) a.past ∙ sym (sets_append out at t u);
}

pub put_as : {out : List ℕ} {at : ℕ} {t u o₁ : List ℕ} {end : ℕ} → t ≡ u → Put out at t o₁ end → Put out at u o₁ end
put_as e p = rw e at p

-- one byte more of a text that is being copied
pub put_more : {out : List ℕ} {at : ℕ} (w : List ℕ) (j : ℕ) {o₁ : List ℕ} → j < length w → Put out at (take j w) o₁ (at + j)
    → Put out at (take (j + 1) w) (set o₁ (at + j) (get_or w j 0)) (at + (j + 1))
put_more {out} {at} w j {o₁} h p =
    let one : Put o₁ (at + j) (get_or w j 0 ∷ []) (set o₁ (at + j) (get_or w j 0)) (at + (j + 1)) = record {
      past = omega arith;
      is =
          refl;
    } in
    rw (add-one j, take-suc w j 0) (rw add-one at (put_then p one))

pub put_all : {out : List ℕ} {at : ℕ} (w : List ℕ) (j : ℕ) {o₁ : List ℕ} {end : ℕ}
    → length w ≤ j → Put out at (take j w) o₁ end → Put out at w o₁ end
put_all w j h p = rw take_all at p

-- ---- where there is room
pub put_fits : (room : ℕ) {out : List ℕ} {at : ℕ} {text after : List ℕ} {end : ℕ} → at + room ≤ length out
    → (end ≡ room_end room out at text) × (after ≡ room_output room out at text) → Put out at text after end
unfolding room_end room_output
put_fits room fits e = let f = le-leb _ _ fits in record { past = e.0 ∙ choose_yes _ _ f; is = e.1 ∙ choose_yes _ _ f }

pub fits_put : (room : ℕ) {out : List ℕ} {at : ℕ} {text after : List ℕ} {end : ℕ} → leb (at + room) (length out) ≡ true
    → Put out at text after end → (end ≡ room_end room out at text) × (after ≡ room_output room out at text)
unfolding room_end room_output
fits_put room f p = (p.past ∙ sym (choose_yes _ _ f), p.is ∙ sym (choose_yes _ _ f))

pub not_put : (room : ℕ) (out : List ℕ) (at : ℕ) (text : List ℕ) → leb (at + room) (length out) ≡ false
    → (at ≡ room_end room out at text) × (out ≡ room_output room out at text)
unfolding room_end room_output
not_put room out at text f = (sym (choose_no _ _ f), sym (choose_no _ _ f))

-- a text at the front, and the rest as it was
pub put_front : {out text after : List ℕ} {end : ℕ}
    → length text ≤ length out → Put out 0 text after end → (end ≡ length text) × (after ≡ text ++ drop (length text) out)
put_front {out} {text} room p =
    let z : 0 + length text ≡ length text = omega arith in
    (p.past ∙ z, p.is ∙ sets-eq text out 0 (omega arith) ∙ ap (λ (k : ℕ). text ++ drop k out) z)

-- nothing of a text yet
pub put_begin : (out : List ℕ) (at : ℕ) (w : List ℕ) → Put out at (take 0 w) out (at + 0)
put_begin out at w = record { past = refl; is = refl }

-- a text more, where there is room for all
pub put_next : (room : ℕ) (u : List ℕ) {out : List ℕ} {at : ℕ} {t o₁ : List ℕ} {p : ℕ} {o₂ : List ℕ} {q : ℕ}
    → Put out at t o₁ p → p + room ≤ length out
    → (q ≡ room_end room o₁ p u) × (o₂ ≡ room_output room o₁ p u) → Put out at (t ++ u) o₂ q
put_next room u {out} {at} {t} a fits e = put_then a (put_fits room (omega (arith, ap length a.is ∙ length-sets out at t)) e)

-- the output keeps its length
pub text_length : {out : List ℕ} {at : ℕ} {t o₁ : List ℕ} {p : ℕ} → Put out at t o₁ p → length o₁ ≡ length out
text_length {out} {at} {t} a = ap length a.is ∙ length-sets out at t

-- how far a text more takes the place
pub step : {out : List ℕ} {at : ℕ} {t o₁ : List ℕ} {p : ℕ} (u : List ℕ) {o₂ : List ℕ} {q : ℕ}
    → Put out at t o₁ p → Put out at (t ++ u) o₂ q → q ≡ p + length u
step {out} {at} {t} u a b = omega (arith, a.past, b.past, length-append t u)

-- A frame is copied out of the output byte by byte, and joins the broadcasts if there is one and there is room.
use Rattle.std.specs.Prelude.{ℕ, ◌+◌, ◌≤◌, ◌<◌, ◌≡◌, refl, true, length, get_or, take, set}
use Rattle.std.proofs.Common.{sym, ap, ◌∙◌, add-one, arith, length-drop, drop-cons, take-suc, get_or-drop, length-take-le}
use Rattle.std.proofs.Math.Path.{subst}
use mathlib.Core.List.{List, [], ◌∷◌, ◌++◌}
use borrow.Author.Tests.{eq-eqb, ne_eqb, lt-ltb, le-ltb, le-leb, leb-true}
use Rattle.std.proofs.Math.ListN.{drop}
use Rattle.std.proofs.Math.Seq.{drop-length}
use Rattle.limits.specs.Limits.{longest_frame}
use Rattle.lists.specs.Lists.{pad_to}
use Rattle.lists.specs.Lists.Laws.{pad_next}
use Rattle.lists.specs.Choice.Laws.{chosen_yes, chosen_no, and_true, and_both}
use Rattle.node.specs.declared.Frame.{Frame}
use Rattle.node.specs.declared.Node.{Node}
use Rattle.node.specs.Node.{most_broadcasts, stored_frame, joined}
use Rattle.keeping.specs.Keeping.{kept_of, kept_from, AllFit, three_fit, kept_three}

pub copied : (out : List ℕ) (from len i : ℕ) → i < len → len ≤ longest_frame → from + len ≤ length out
    → set (pad_to longest_frame (take i (drop from out))) i (get_or out (from + i) 0) ≡ pad_to longest_frame (take (i + 1) (drop from out))
copied out from len i h short fits =
    let l : i < length (drop from out) = simp length-drop (omega arith) in
    pad_next longest_frame (take i (drop from out)) i (get_or out (from + i) 0) (length-take-le i (drop from out) (omega arith))
    (omega arith)
    ∙ ap (pad_to longest_frame) (sym
    (rw (add-one i) (take-suc (drop from out) i 0 l ∙ ap (λ (x : ℕ). take i (drop from out) ++ (x ∷ [])) (get_or-drop from out i 0))))

-- ---- one broadcast more
pub part_length : (out : List ℕ) (from len : ℕ) → from + len ≤ length out → length (take len (drop from out)) ≡ len
part_length out from len h = length-take-le len (drop from out) (simp length-drop (omega arith))

pub kept_none : (v : Node) (bytes : List ℕ) → length bytes ≡ 0 → v ≡ kept_of v bytes
unfolding kept_of
kept_none v bytes e = chosen_yes _ (eq-eqb (length bytes) 0 e) refl

pub kept_full : (v : Node) (bytes : List ℕ) → (length bytes ≡ 0 → ⊥) → most_broadcasts ≤ v.count → v ≡ kept_of v bytes
unfolding kept_of joined
kept_full v bytes e h = chosen_no _ (ne_eqb (length bytes) 0 e) (chosen_no _ (le-ltb v.count most_broadcasts h) refl)

pub kept_more : (v : Node) (bytes : List ℕ)
    → (length bytes ≡ 0 → ⊥) → v.count < most_broadcasts → {frame : Frame} → frame ≡ stored_frame bytes
    → record { base = v.base; count = v.count + 1; frames = set v.frames v.count frame; heard = v.heard } ≡ kept_of v bytes
unfolding kept_of joined
kept_more v bytes e h f = chosen_no _ (ne_eqb (length bytes) 0 e) (chosen_yes _ (lt-ltb v.count most_broadcasts h)
    (ap (λ (frame : Frame).
    record { base = v.base; count = v.count + 1; frames = set v.frames v.count frame; heard = v.heard }) f))

-- ---- the frames of an output, one after another
-- the i-th fits in its place, and those behind it in theirs
abbrev pub FitsHere : List ℕ → List ℕ → ℕ → ℕ → Type 0
FitsHere lengths out from i = AllFit (length out) from (get_or lengths i 0 ∷ drop (i + 1) lengths)

module _ (lengths : List ℕ) (out : List ℕ) (from i : ℕ) where
  rest_here : i < length lengths → drop i lengths ≡ get_or lengths i 0 ∷ drop (i + 1) lengths
  rest_here h = rw (add-one i) (drop-cons lengths i 0 h)

  pub fits_here : i < length lengths → AllFit (length out) from (drop i lengths) → FitsHere lengths out from i
  fits_here h F = subst (AllFit (length out) from) (rest_here h) F

  pub kept_here : i < length lengths → (v : Node) {w : Node} → w ≡ kept_of v (take (get_or lengths i 0) (drop from out))
      → kept_from w out (from + get_or lengths i 0) (drop (i + 1) lengths) ≡ kept_from v out from (drop i lengths)
  unfolding kept_from
  kept_here h v e = rw (e, rest_here h)

  pub all_kept : i ≡ length lengths → {v w : Node} → kept_from v out from (drop i lengths) ≡ w → v ≡ w
  unfolding kept_from
  all_kept e {v} {w} k = subst (λ (l : List ℕ). kept_from v out from l ≡ w) (ap (λ (j : ℕ). drop j lengths) e ∙ drop-length lengths) k

-- ---- three of them
module _ {room x y z : ℕ} where
  pub three_fit_lem : three_fit room x y z ≡ true → AllFit room 0 (x ∷ (y ∷ (z ∷ [])))
  unfolding three_fit
  three_fit_lem e =
      let a = and_true _ _ e in
      let b = and_true _ _ a.1 in
      let c = and_true _ _ b.1 in
      let all : x + y + z ≤ room = leb-true _ _ c.1 in (
        leb-true _ _ a.0,
        (
          omega (arith, all),
          (
            leb-true _ _ b.0,
            (omega (arith, all), (leb-true _ _ c.0, (omega (arith, all), tt))),
          ),
        ),
      )

  fit_three : AllFit room 0 (x ∷ (y ∷ (z ∷ []))) → three_fit room x y z ≡ true
  unfolding three_fit
  fit_three F = and_both (le-leb _ _ F.0) (and_both (le-leb _ _ F.1.1.0)
      (and_both (le-leb _ _ F.1.1.1.1.0) (le-leb (x + y + z) room (omega (arith, F.1.1.1.1.1.0)))))

pub kept_three_lem : (v : Node) (out : List ℕ) (x y z : ℕ) → AllFit (length out) 0 (x ∷ (y ∷ (z ∷ [])))
    → kept_from v out 0 (x ∷ (y ∷ (z ∷ []))) ≡ kept_three v out x y z
unfolding kept_three
kept_three_lem v out x y z F = chosen_yes _ (fit_three F) refl

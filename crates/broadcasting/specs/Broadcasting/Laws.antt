-- A frame that fits is written, and any other is not.
use Rattle.std.specs.Prelude.{ℕ, ◌-◌, ◌≤◌, ◌<◌, ◌≡◌, Bool, leb, take, drop}
use Rattle.std.proofs.Math.Path.{refl, sym, ap, ap₂}
use Rattle.std.proofs.Common.{◌∙◌, le-leb, length-drop}
use Rattle.std.proofs.Math.Bool.{true, false}
use mathlib.Core.List.{List, [], ◌++◌, append-nil}
use native.Mathlib.Omega.{arith}
use Rattle.std.proofs.lemmas.Bool.{lt-leb}
use Rattle.std.proofs.Math.Dec.{eqb}
use Rattle.std.proofs.Math.ListN.{length, length-take}
use Rattle.limits.specs.Limits.{most_bases, frame_bytes}
use Rattle.lists.specs.Choice.{and}
use Rattle.lists.specs.Choice.Laws.{choose_yes, choose_no, choose_ind, and_true, and_fails, and_both, and_no}
use Rattle.frame.specs.Message.{known, expected}
use Rattle.frame.specs.Encoding.{frame_of, over}
use Rattle.frame.proofs.Encoding.Laws.{length_frame, over_nothing}
use Rattle.frame.specs.declared.size.FrameSize.{FrameSize}
use Rattle.frame.specs.Slots.{size_of}
use Rattle.frame.proofs.Reading.Laws.{kind_unknown, kind_size}
use Rattle.frame_room.specs.Room.{frame_fits}
use Rattle.framing.specs.Framing.{put_length, put_output}
use Rattle.frame_room.specs.Room.Laws.{fits_passed}
use Rattle.protocol.specs.declared.Outcome.{Outcome}
use Rattle.broadcasting.specs.Broadcasting.{frame_in, last_frame, accepted_with}

module _ (n kind : ℕ) (ids : List ℕ) (room : ℕ) where
  -- ---- nothing
  pub unfit_frame : frame_fits n kind (expected kind n) room ≡ false → frame_in n kind ids room ≡ []
  unfolding frame_in
  unfit_frame e = choose_no _ _ (ap (and (leb (expected kind n) most_bases)) e ∙ and_no _)

  pub unknown_frame : known kind ≡ false → frame_in n kind ids room ≡ []
  unfolding frame_fits
  unknown_frame e = unfit_frame (sym (and_fails _ (ap (λ (r : ℕ). eqb r 0) (kind_unknown n kind (expected kind n) e))))

  pub long_frame : most_bases < expected kind n → frame_in n kind ids room ≡ []
  unfolding frame_in
  long_frame h = choose_no _ _ (sym (and_fails _ (lt-leb (expected kind n) most_bases h)))

  -- ---- a frame
  pub fit_frame : expected kind n ≤ most_bases → frame_fits n kind (expected kind n) room ≡ true
      → frame_in n kind ids room ≡ frame_of kind (take (expected kind n) ids)
  unfolding frame_in
  fit_frame h e = choose_yes _ _ (and_both (le-leb (expected kind n) most_bases h) e)

  -- it is no longer than the room
  pub frame_within : length (frame_in n kind ids room) ≤ room
  unfolding frame_in
  frame_within = choose_ind (λ (f : List ℕ). length f ≤ room) _
      (λ e. let p = fits_passed n kind (expected kind n) room (and_true _ _ e).1 in
      omega (
        arith,
        length_frame kind (take (expected kind n) ids),
        length-take (expected kind n) ids,
        kind_size n kind (expected kind n) p.0,
        p.1,
      ))
      (λ _. omega arith)

-- what is put is that frame
module _ (n kind : ℕ) (ids front output : List ℕ) (h : expected kind n ≤ most_bases) (e : front ≡ take (expected kind n) ids)
    (l : length front ≡ expected kind n) where
  Put : Type 0
  Put = (put_length n kind (length front) (length output) ≡ length (frame_in n kind ids (length output)))
      × (put_output n kind front output ≡ over (frame_in n kind ids (length output)) output)

  put_fit : frame_fits n kind (expected kind n) (length output) ≡ true → Put
  unfolding put_length put_output Put
  put_fit t =
      let f = fit_frame n kind ids (length output) h t in
      let u : frame_fits n kind (length front) (length output) ≡ true = ap (λ (k : ℕ). frame_fits n kind k (length output)) l ∙ t in
      let p = fits_passed n kind (expected kind n) (length output) t in
      let g : frame_of kind front ≡ frame_in n kind ids (length output) = ap (frame_of kind) e ∙ sym f in (
        choose_yes _ _ u ∙ kind_size n kind (expected kind n) p.0 ∙ ap frame_bytes (sym l) ∙ sym (length_frame kind front) ∙ ap length g,
        choose_yes _ _ u ∙ ap (λ (b : List ℕ). over b output) g,
      )

  put_unfit : frame_fits n kind (expected kind n) (length output) ≡ false → Put
  unfolding put_length put_output Put
  put_unfit t =
      let f = unfit_frame n kind ids (length output) t in
      let u : frame_fits n kind (length front) (length output) ≡ false = ap (λ (k : ℕ). frame_fits n kind k (length output)) l ∙ t in
      (choose_no _ _ u ∙ ap length (sym f), choose_no _ _ u ∙ sym (over_nothing output) ∙ ap (λ (b : List ℕ). over b output) (sym f))

  pub put_frame : (put_length n kind (length front) (length output) ≡ length (frame_in n kind ids (length output)))
      × (put_output n kind front output ≡ over (frame_in n kind ids (length output)) output)
  unfolding Put
  put_frame = go (frame_fits n kind (expected kind n) (length output)) refl
    where
      go : (t : Bool) → frame_fits n kind (expected kind n) (length output) ≡ t → Put
      go true t = put_fit t
      go false t = put_unfit t

-- nothing written
pub nothing_said : {r : FrameSize} (f output : List ℕ) → r ≡ size_of 0 → f ≡ [] → (r ≡ size_of (length f)) × (output ≡ over f output)
nothing_said f output z e =
    (z ∙ ap (λ (b : List ℕ). size_of (length b)) (sym e), sym (over_nothing output) ∙ ap (λ (b : List ℕ). over b output) (sym e))

-- ---- the frame behind the first
module _ (n first : ℕ) (ids : List ℕ) (stops : Bool) (list output : List ℕ) where
  abbrev front : List ℕ
  front = frame_in n first ids (length output)

  abbrev last : List ℕ
  last = last_frame n first ids stops list (length output)

  abbrev Broadcast : Outcome → List ℕ → Type 0
  Broadcast r after = (r ≡ accepted_with (size_of (length front)) (size_of (length last))) × (after ≡ over (front ++ last) output)

  pub runs_on_said : (r : Outcome) (size none : FrameSize) (after : List ℕ) → stops ≡ false → size ≡ size_of (length front)
      → none ≡ size_of 0 → r ≡ accepted_with size none → after ≡ over front output → Broadcast r after
  unfolding last_frame
  runs_on_said r size none after e s o p q =
      let z : last ≡ [] = choose_no _ _ e in (
        p ∙ ap₂ accepted_with s (o ∙ ap (λ (l : List ℕ). size_of (length l)) (sym z)),
        q ∙ ap (λ (b : List ℕ). over b output) (sym (append-nil front) ∙ ap (λ (l : List ℕ). front ++ l) (sym z)),
      )

  pub stops_said : (r : Outcome) (size back : FrameSize) (room : ℕ) (after : List ℕ) → stops ≡ true → size ≡ size_of (length front)
      → room ≡ length output - size.length → back ≡ size_of (length (frame_in n 3 list room)) → r ≡ accepted_with size back
      → after ≡ over (front ++ frame_in n 3 list room) output → Broadcast r after
  unfolding last_frame
  stops_said r size back room after e s m k p q =
      let z : frame_in n 3 list room ≡ last =
      ap (frame_in n 3 list) (m ∙ ap (λ (x : FrameSize). length output - x.length) s) ∙ sym (choose_yes _ _ e) in (
        p ∙ ap₂ accepted_with s (k ∙ ap (λ (l : List ℕ). size_of (length l)) z),
        q ∙ ap (λ (l : List ℕ). over (front ++ l) output) z,
      )

-- the rest of an output, past its first bytes
pub rest_length : (output : List ℕ) (first : ℕ) → length (take (length output - first) (drop first output)) ≡ length output - first
rest_length output first = omega (arith, length-take (length output - first) (drop first output), length-drop first output)

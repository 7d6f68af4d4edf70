-- Whether two frames fit, and that frames that fit are written.
use Rattle.std.specs.Prelude.{◌≡◌, Bool, true, false, List, ◌++◌, ℕ, ◌*◌, ◌-◌, ◌≤◌, length, take, drop}
use Rattle.std.proofs.Math.Path.{refl, sym, ap, ap₂}
use Rattle.std.proofs.Common.{◌∙◌, arith, length-take, length-drop}
use Rattle.limits.specs.Limits.{frame_bytes}
use Rattle.lists.specs.Choice.Laws.{choose_yes, chosen_yes, and_fails, and_goes_on, and_true}
use Rattle.frame.specs.Encoding.{frame_of, over}
use Rattle.frame.proofs.Encoding.Laws.{over_rest, length_frame}
use Rattle.frame.specs.Message.{length_of}
use Rattle.frame.specs.declared.size.FrameSize.{FrameSize}
use Rattle.frame.specs.Slots.{size_of}
use Rattle.frame.specs.Reading.{kind_refusal}
use Rattle.frame.proofs.Reading.Laws.{kind_size}
use Rattle.frame_room.specs.Room.{frame_fits}
use Rattle.framing.specs.Framing.{put_length, put_output}
use Rattle.frame_room.specs.Room.Laws.{fits, fits_passed}
use Rattle.framing.specs.Framing.Laws.{put_length_lem, put_output_lem}
use Rattle.two_frames.specs.declared.TwoSizes.{TwoSizes}
use Rattle.two_frames.specs.TwoFrames.{two_fit, two_sizes, two_output}

abbrev two_of : FrameSize → FrameSize → TwoSizes
two_of front next = record { front = front; next = next }

-- ---- two frames fit if the second fits behind the first, and not where the first does not
pub two_fit_lem : (n kind next count room front : ℕ) {t : Bool} → front ≡ length_of kind n
    → frame_fits n kind count room ≡ true → t ≡ frame_fits n next count (room - front) → t ≡ two_fit n kind next count room
unfolding two_fit
two_fit_lem n kind next count room front e p q = and_goes_on p (q ∙ ap (λ (size : ℕ). frame_fits n next count (room - size)) e)

pub two_fail : (n kind next count room : ℕ) → frame_fits n kind count room ≡ false → false ≡ two_fit n kind next count room
unfolding two_fit
two_fail n kind next count room e = and_fails _ e

-- ---- two frames that fit: the first ends within the output, and the second is put into the rest of it
module _ (n kind next : ℕ) (ids output : List ℕ) (fit : two_fit n kind next (length ids) (length output) ≡ true)
    (front : FrameSize) (p : front ≡ size_of (put_length n kind (length ids) (length output))) where
  both_passed : (frame_fits n kind (length ids) (length output) ≡ true)
      × (frame_fits n next (length ids) (length output - length_of kind n) ≡ true)
  unfolding two_fit
  both_passed = and_true _ _ fit

  front_size : front ≡ size_of (length_of kind n)
  front_size = p ∙ ap size_of (put_length_lem n kind (length ids) (length output) both_passed.0)

  front_length : front.length ≡ length_of kind n
  front_length = ap (λ (s : FrameSize). s.length) front_size

  pub front_within : front.length ≤ length output
  front_within = omega (arith, front_length, (fits_passed n kind (length ids) (length output) both_passed.0).1)

  module _ (after rest : List ℕ) (back : FrameSize) (kept : length after ≡ length output) (q : after ≡ put_output n kind ids output)
      (r : back ≡ size_of (put_length n next (length ids) (length (take (length after - front.length) (drop front.length after)))))
      (s : rest ≡ put_output n next ids (take (length after - front.length) (drop front.length after))) where
    rest_fits : frame_fits n next (length ids) (length (take (length after - front.length) (drop front.length after))) ≡ true
    rest_fits =
        let room : length (take (length after - front.length) (drop front.length after)) ≡ length output - length_of kind n =
        simp (length-take, length-drop) (omega (arith, kept, front_length)) in
        ap (frame_fits n next (length ids)) room ∙ both_passed.1

    pub two_put : (record { front = front; next = back } ≡ two_sizes n kind next (length ids) (length output))
        × (take front.length after ++ (rest ++ drop (length after - front.length) (drop front.length after))
        ≡ two_output n kind next ids output)
    unfolding two_sizes two_output
    two_put =
        let size = front_length ∙ kind_size _ _ _ (fits_passed _ _ _ _ both_passed.0).0 ∙ sym (length_frame kind ids) in (
          chosen_yes _ fit (ap₂ two_of front_size (r ∙ ap size_of (put_length_lem _ _ _ _ rest_fits))),
          chosen_yes _ fit (over_rest _ _ _ _ _ _ _ size refl (q ∙ put_output_lem _ _ _ _ both_passed.0) (s
              ∙ put_output_lem _ _ _ _ rest_fits)),
        )

-- frames of a kind that there is, of its count, with twice the room, are written
module _ (n kind next : ℕ) (ids output : List ℕ)
    (e : kind_refusal n kind (length ids) ≡ 0) (f : kind_refusal n next (length ids) ≡ 0)
    (h : 2 * frame_bytes (length ids) ≤ length output) where
  both_fit : two_fit n kind next (length ids) (length output) ≡ true
  both_fit =
      let front = kind_size n kind (length ids) e in
      sym (two_fit_lem n kind next (length ids) (length output) (length_of kind n) refl
      (fits n kind (length ids) (length output) e (omega (arith, front)))
      (sym (fits n next (length ids) (length output - length_of kind n) f (omega (arith, front, kind_size n next (length ids) f)))))

  pub put_two_sizes : two_sizes n kind next (length ids) (length output)
      ≡ record { front = size_of (frame_bytes (length ids)); next = size_of (frame_bytes (length ids)) }
  unfolding two_sizes
  put_two_sizes =
      choose_yes _ _ both_fit
      ∙ ap₂ (λ (a b : ℕ). two_of (size_of a) (size_of b)) (kind_size n kind (length ids) e) (kind_size n next (length ids) f)

  pub put_two_output : two_output n kind next ids output ≡ over (frame_of kind ids ++ frame_of next ids) output
  unfolding two_output
  put_two_output = choose_yes _ _ both_fit

-- The two frames of a start are those that `put_two` puts, and those of the protocol's start.
use Rattle.std.specs.Prelude.{ℕ, ◌+◌, ◌*◌, ◌≤◌, ◌≡◌, Bool, true, leb, length}
use Rattle.std.proofs.Math.Path.{refl, sym, ap}
use Rattle.std.proofs.Common.{◌∙◌, arith, length-append}
use Rattle.std.proofs.Math.Bool.{false}
use mathlib.Core.List.{List, [], ◌∷◌, ◌++◌, append-nil}
use borrow.Author.Tests.{le-leb, leb-true, leb-false}
use Rattle.limits.specs.Limits.{frame_bytes, frame_slots}
use Rattle.lists.specs.Choice.{choose}
use Rattle.lists.specs.Choice.Laws.{choose_yes, choose_no, choose_ind, and_true}
use Rattle.frame.specs.Message.{kind_of, ids_of}
use Rattle.frame.specs.Encoding.{frame_of, encode, over}
use Rattle.frame.proofs.Encoding.Laws.{length_frame, over_nothing}
use Rattle.frame.specs.Slots.{size_of}
use Rattle.frame.proofs.Reading.Laws.{announce_kind, verify_kind, kind_size}
use Rattle.frame_room.specs.Room.Laws.{fits_passed}
use Rattle.two_frames.specs.declared.TwoSizes.{TwoSizes}
use Rattle.two_frames.specs.TwoFrames.{two_fit, two_sizes, two_output}
use Rattle.two_frames.specs.TwoFrames.Laws.{put_two_sizes, put_two_output}
use Rattle.protocol.specs.declared.Base.{Base}
use Rattle.protocol.specs.Steps.{accepts, begins, encode_all}
use Rattle.start_frames.specs.declared.StartSizes.{StartSizes}
use Rattle.start_frames.specs.Frames.{start_frames, start_length, start_sizes, written_start}

-- ---- what `put_two` puts
both_fit : (n room : ℕ) → two_fit n 1 2 1 room ≡ true → 2 * frame_bytes 1 ≤ room
unfolding two_fit
both_fit n room t = let p = and_true _ _ t in omega (
  arith,
  (fits_passed n 1 1 room p.0).1,
  (fits_passed n 2 1 _ p.1).1,
  kind_size n 1 1 (announce_kind n),
  kind_size n 2 1 (verify_kind n),
)

no_room : (n room : ℕ) → leb (2 * frame_bytes 1) room ≡ false → two_fit n 1 2 1 room ≡ false
no_room n room e = go (two_fit n 1 2 1 room) refl
  where
    go : (t : Bool) → two_fit n 1 2 1 room ≡ t → two_fit n 1 2 1 room ≡ false
    go false t = t
    go true t = absurd (omega (arith, leb-false (2 * frame_bytes 1) room e, both_fit n room t))

pub start_short : (room : ℕ) → start_length room ≤ frame_bytes 1
unfolding start_length
start_short room = choose_ind (λ (k : ℕ). k ≤ frame_bytes 1) (leb (2 * frame_bytes 1) room) (λ _. omega arith) (λ _. omega arith)

module _ (n own : ℕ) (output : List ℕ) where
  both : ℕ → TwoSizes
  both length = record { front = size_of length; next = size_of length }

  Begun : TwoSizes → List ℕ → Type 0
  Begun two after = (two ≡ both (start_length (length output))) × (after ≡ over (start_frames own (length output)) output)

  begins_with : (two : TwoSizes) (after : List ℕ) → two ≡ two_sizes n 1 2 1 (length output) → after ≡ two_output n 1 2 (own ∷ []) output
      → Begun two after
  begins_with two after p q = go (leb (2 * frame_bytes 1) (length output)) refl
    where
      go : (t : Bool) → leb (2 * frame_bytes 1) (length output) ≡ t → Begun two after
      go true t = unfold start_length start_frames Begun both in
          (let h = leb-true (2 * frame_bytes 1) (length output) t in (
            p ∙ put_two_sizes n 1 2 (own ∷ []) output (announce_kind n) (verify_kind n) h ∙ ap both (sym (choose_yes _ _ t)),
            q ∙ put_two_output n 1 2 (own ∷ []) output (announce_kind n) (verify_kind n) h
                ∙ ap (λ (s : List ℕ). over s output) (sym (choose_yes _ _ t)),
          ))
      go false t = unfold start_length start_frames Begun both two_sizes two_output in
          (let z = no_room n (length output) t in (
            p ∙ choose_no _ _ z ∙ ap both (sym (choose_no _ _ t)),
            q ∙ choose_no _ _ z ∙ sym (over_nothing output) ∙ ap (λ (s : List ℕ). over s output) (sym (choose_no _ _ t)),
          ))

  pub begin_puts : (two : TwoSizes) (after : List ℕ) → two ≡ two_sizes n 1 2 1 (length output) → after ≡ two_output n 1 2 (own ∷ []) output
      → (◌≡◌ {A = StartSizes}
      (record { announce = two.front.length; verify = two.next.length; slots = two.front.slots + two.next.slots })
      (start_sizes (length output)))
      × (after ≡ over (start_frames own (length output)) output)
  unfolding Begun both start_sizes
  begin_puts two after p q =
      let B = begins_with two after p q in (
        ap (λ (t : TwoSizes).
            record { announce = t.front.length; verify = t.next.length; slots = t.front.slots + t.next.slots }) B.0,
        B.1,
      )

  -- both are short
  pub begin_few : (two : TwoSizes) → two ≡ two_sizes n 1 2 1 (length output) → two.front.slots + two.next.slots ≤ 2
  unfolding Begun both
  begin_few two p =
      let B = begins_with two _ p refl in
      let short = start_short (length output) in
      omega (arith, ap (λ (t : TwoSizes). t.front.slots) B.0, ap (λ (t : TwoSizes). t.next.slots) B.0, short)

-- ---- their lengths
pub start_long : (own room : ℕ) → length (start_frames own room) ≡ start_length room + start_length room
unfolding start_frames start_length choose
start_long own room = go (leb (2 * frame_bytes 1) room)
  where
    go : (t : Bool)
        → length (choose t (frame_of 1 (own ∷ []) ++ frame_of 2 (own ∷ [])) []) ≡ choose t (frame_bytes 1) 0 + choose t (frame_bytes 1) 0
    go true = omega (
      arith,
      length-append (frame_of 1 (own ∷ [])) (frame_of 2 (own ∷ [])),
      length_frame 1 (own ∷ []),
      length_frame 2 (own ∷ []),
    )
    go false = refl

pub start_fits : (room : ℕ) → start_length room + start_length room ≤ room
unfolding start_length
start_fits room = choose_ind (λ (k : ℕ). k + k ≤ room) (leb (2 * frame_bytes 1) room)
    (λ e. omega (arith, leb-true (2 * frame_bytes 1) room e)) (λ _. omega arith)

-- ---- with room for both they are those of a start
pub start_length_is : (room : ℕ) → 2 * frame_bytes 1 ≤ room → start_length room ≡ frame_bytes 1
unfolding start_length
start_length_is room h = choose_yes _ _ (le-leb (2 * frame_bytes 1) room h)

pub start_sizes_are : (room : ℕ) → 2 * frame_bytes 1 ≤ room
    → start_sizes room ≡ written_start
unfolding start_sizes
start_sizes_are room h =
    ap (λ (k : ℕ). record { announce = k; verify = k; slots = frame_slots k + frame_slots k }) (start_length_is room h)

pub start_says : (b : Base) (room : ℕ) → 2 * frame_bytes 1 ≤ room → start_frames b.own room ≡ encode_all (begins b).says
unfolding start_frames begins accepts encode_all encode kind_of ids_of
start_says b room h =
    choose_yes _ _ (le-leb (2 * frame_bytes 1) room h)
    ∙ ap (λ (f : List ℕ). frame_of 1 (b.own ∷ []) ++ f) (sym (append-nil (frame_of 2 (b.own ∷ []))))

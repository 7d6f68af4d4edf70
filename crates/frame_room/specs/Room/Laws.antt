-- Whether a frame fits, and what writing it asks.
use Rattle.std.specs.Prelude.{◌≡◌, true, ℕ, ◌≤◌, ◌<◌}
use Rattle.std.proofs.Common.{ap, ◌∙◌, arith, le-leb, eq-eqb, leb-true, eqb-true}
use Rattle.limits.specs.Limits.{frame_bytes}
use Rattle.lists.specs.Choice.Laws.{and_true, and_both}
use Rattle.frame.specs.Message.{length_of}
use Rattle.frame.specs.Reading.{kind_refusal}
use Rattle.frame.proofs.Reading.Laws.{kind_size, kind_few}
use Rattle.frame_room.specs.Room.{frame_fits}

pub fits : (n kind count room : ℕ) → kind_refusal n kind count ≡ 0 → length_of kind n ≤ room → frame_fits n kind count room ≡ true
unfolding frame_fits
fits n kind count room e h = and_both (eq-eqb (kind_refusal n kind count) 0 e) (le-leb (length_of kind n) room h)

pub fits_passed : (n kind count room : ℕ) → frame_fits n kind count room ≡ true
    → (kind_refusal n kind count ≡ 0) × (length_of kind n ≤ room)
unfolding frame_fits
fits_passed n kind count room e =
    let p = and_true _ _ e in
    (eqb-true (kind_refusal n kind count) 0 p.0, leb-true (length_of kind n) room p.1)

-- a count that fits in a byte, the frame's size, and room for it
pub fits_asks : (n kind count room size : ℕ) → n < 256 → size ≡ length_of kind n → frame_fits n kind count room ≡ true
    → (count < 256) × ((size ≡ frame_bytes count) × (size ≤ room))
fits_asks n kind count room size small e f =
    let p = fits_passed n kind count room f in
    (omega (arith, kind_few n kind count 255 p.0 (omega arith) (omega arith)), (e ∙ kind_size n kind count p.0, omega (arith, p.1)))

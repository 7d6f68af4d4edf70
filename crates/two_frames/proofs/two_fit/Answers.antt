-- `two_frames::two_fit` meets its contract: the second frame is asked about in the room that the first leaves.
use mathlib.Core.Path.{◌≡◌, sym, ◌∙◌}
use mathlib.Core.Bool.{true}
use native.Mathlib.Omega.{arith}
use Rattle.frame_room.specs.Room.{frame_fits}
use Rattle.frame_room.specs.Room.Laws.{fits_passed}
use Rattle.two_frames.specs.TwoFrames.Laws.{two_fit_lem, two_fail}
use Rattle.two_frames.proofs.two_fit.Goals as goal

pub returns-then-not-frame_fits : goal.returns-then-not-frame_fits
returns-then-not-frame_fits c = two_fail _ _ _ _ _ (sym c.frame_fits.ensures ∙ c.if-not-frame_fits.true)

pub overflow_sub-room : goal.overflow_sub-room
overflow_sub-room c = let front_fits : let a = c.args in
    frame_fits a.n a.kind a.count a.room ≡ true = sym c.frame_fits.ensures ∙ c.if-not-frame_fits.false in
    omega (arith, c.length_of.ensures, (fits_passed _ _ _ _ front_fits).1)

pub returns : goal.returns
returns c = let front_fits : let a = c.args in
    frame_fits a.n a.kind a.count a.room ≡ true = sym c.frame_fits.ensures ∙ c.if-not-frame_fits.false in
    two_fit_lem _ _ _ _ _ _ c.length_of.ensures front_fits c.frame_fits-2.ensures

-- `framing::put` meets its contract: a frame that fits meets what put_frame asks, and no other is written.
use mathlib.Core.Path.{refl, sym, ap, ◌∙◌}
use native.Mathlib.Omega.{arith}
use Rattle.lists.specs.Choice.Laws.{chosen_yes, chosen_no}
use Rattle.frame.specs.Slots.{size_of}
use Rattle.framing.specs.Framing.{put_length, put_output}
use Rattle.frame_room.specs.Room.Laws.{fits_asks}
use Rattle.framing.proofs.put.Goals as goal

pub returns-then-not-frame_fits : goal.returns-then-not-frame_fits
unfolding put_length put_output
returns-then-not-frame_fits c =
    let e = sym c.frame_fits.ensures ∙ c.if-not-frame_fits.true in
    (c.frame_size.ensures ∙ ap size_of (chosen_no _ e refl), chosen_no _ e refl)

pub put_frame-requires : goal.put_frame-requires
put_frame-requires c =
    let frame-fits = c.frame_fits in
    let a = c.args in
    fits_asks a.n a.kind _ _ _ (omega arith) c.length_of-size.ensures (sym frame-fits.ensures ∙ c.if-not-frame_fits.false)

pub returns : goal.returns
unfolding put_length put_output
returns c =
    let frame-fits = c.frame_fits in
    let length-of = c.length_of-size in
    let e = sym frame-fits.ensures ∙ c.if-not-frame_fits.false in
    (c.frame_size-2.ensures ∙ ap size_of (chosen_yes _ e length-of.ensures), chosen_yes _ e c.put_frame.ensures)

-- `frame_room::frame_fits` meets its contract: numbers 8 and 9 first, then the room.
use Prim.Native.Nat.{ℕ}
use mathlib.Core.Path.{sym, ap, ◌∙◌}
use borrow.Author.Tests.{eq-eqb, ne_eqb}
use lib.Dec.{leb}
use Rattle.lists.specs.Choice.Laws.{and_fails, and_goes_on}
use Rattle.frame_room.specs.Room.{frame_fits}
use Rattle.frame_room.proofs.frame_fits.Goals as goal

pub returns-then-kind_refusal-ne0 : goal.returns-then-kind_refusal-ne0
unfolding frame_fits
returns-then-kind_refusal-ne0 c = and_fails _ (ne_eqb _ 0 (λ z. c.if-kind_refusal-ne0.true (c.kind_refusal.ensures ∙ z)))

pub returns : goal.returns
unfolding frame_fits
returns c =
    let room = c.args.room in
    and_goes_on
    (eq-eqb _ 0 (sym c.kind_refusal.ensures ∙ c.if-kind_refusal-ne0.false))
    (ap (λ (size : ℕ). leb size room) c.length_of.ensures)

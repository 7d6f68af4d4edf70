-- `link_soundness::link_sound` meets its contract: the tests stand in the order of the definition.
use Prim.Native.Nat.{◌+◌}
use mathlib.Core.Path.{sym, ◌∙◌}
use native.Mathlib.Omega.{arith}
use borrow.Author.Tests.{le-leb, lt-leb}
use Rattle.protocol.specs.Sound.{link_sound}
use Rattle.protocol.specs.Links.{used}
use Rattle.lists.specs.Choice.Laws.{and_fails, and_goes_on}
use Rattle.link_soundness.proofs.link_sound.Goals as goal

pub returns-then-most-held_count : goal.returns-then-most-held_count
unfolding link_sound
returns-then-most-held_count c = let a = c.args in
    and_fails _ (lt-leb (used a.link) (a.n + 1) (omega (arith, c.held_count.ensures)))

pub returns-then-not-verifies_sound : goal.returns-then-not-verifies_sound
unfolding link_sound
returns-then-not-verifies_sound c = let a = c.args in
    and_goes_on (le-leb (used a.link) (a.n + 1) (omega (arith, c.held_count.ensures)))
    (and_fails _ (sym c.verifies_sound.ensures ∙ c.if-not-verifies_sound.true))

pub returns : goal.returns
unfolding link_sound
returns c = let a = c.args in
    and_goes_on (le-leb (used a.link) (a.n + 1) (omega (arith, c.held_count.ensures)))
    (and_goes_on (sym c.verifies_sound.ensures ∙ c.if-not-verifies_sound.false) c.held_sound.ensures)

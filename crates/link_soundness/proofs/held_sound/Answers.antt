-- `link_soundness::held_sound` meets its contract, by the kind held.
use mathlib.Core.Path.{◌∙◌}
use borrow.Author.Tests.{ne_eqb}
use Rattle.protocol.specs.Sound.{held_sound}
use Rattle.lists.specs.Choice.{choose, and, or}
use Rattle.link_soundness.proofs.held_sound.Goals as goal

pub returns-in-0 : goal.returns-in-0
unfolding held_sound choose
returns-in-0 c = c.zero_behind.ensures ∙ simp c.in-0.is

pub returns-in-3 : goal.returns-in-3
unfolding held_sound choose and or
returns-in-3 c = c.list_sound.ensures ∙ simp c.in-3.is

pub returns-in-4 : goal.returns-in-4
unfolding held_sound choose and or
returns-in-4 c = c.list_sound-in-4.ensures ∙ simp c.in-4.is

pub returns-in_default : goal.returns-in_default
unfolding held_sound choose and or
returns-in_default c = let r = c.in_default.in_default-own.rest in simp (ne_eqb _ _ r.1, ne_eqb _ _ r.0.1, ne_eqb _ _ r.0.0.1)

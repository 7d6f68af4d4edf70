-- `record_soundness::links_sound` meets its contract: the places are tested from the last to the first.
use mathlib.Core.Path.{sym, ◌∙◌}
use native.Mathlib.Omega.{arith}
use Rattle.protocol.specs.Record.{link_at}
use Rattle.protocol.specs.Sound.{place_sound}
use Rattle.record_soundness.proofs.Each.{passed_none, passed_next, passed_fails, passed_all}
use Rattle.record_soundness.proofs.links_sound.Goals as goal

pub loop-i-init : goal.loop-i-init
loop-i-init c = passed_none _ _

pub returns-then-not-place_sound : goal.returns-then-not-place_sound
unfolding link_at
returns-then-not-place_sound c =
    passed_fails _ _ c.loop-i.invariant c.loop-i-test.true (sym c.place_sound.ensures ∙ c.if-not-place_sound.true)

pub loop-i-preserved : goal.loop-i-preserved
unfolding link_at
loop-i-preserved c = passed_next _ _ c.loop-i.invariant c.loop-i-test.true (sym c.place_sound.ensures ∙ c.if-not-place_sound.false)

pub returns : goal.returns
returns c = passed_all _ _ c.loop-i.invariant (omega arith)

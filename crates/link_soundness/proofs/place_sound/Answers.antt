-- `link_soundness::place_sound` meets its contract: a link that is not sound is not empty either, and a sound one is empty if it holds
-- nothing.
use Prim.Native.Nat.{◌-◌, ◌≤◌}
use mathlib.Core.Path.{sym, ◌∙◌}
use native.Mathlib.Omega.{arith}
use Rattle.link_soundness.proofs.Empty.{unsound_place, used_place, filled_place, empty_held_place}
use Rattle.link_soundness.proofs.place_sound.Goals as goal

pub returns-then-not-link_sound : goal.returns-then-not-link_sound
returns-then-not-link_sound c = unsound_place _ _ _ (sym c.link_sound.ensures ∙ c.if-not-link_sound.true)

pub returns-then-i-bases : goal.returns-then-i-bases
returns-then-i-bases c = used_place _ _ _ (sym c.link_sound.ensures ∙ c.if-not-link_sound.false) c.if-i-bases.true

pub returns-then-held_count-ne0 : goal.returns-then-held_count-ne0
returns-then-held_count-ne0 c = let past : c.args.n - 1 ≤ c.args.i = omega arith in
    filled_place _ _ _ (sym c.link_sound.ensures ∙ c.if-not-link_sound.false) c.held_count.ensures past
    c.if-held_count-ne0.true

pub returns : goal.returns
returns c = let past : c.args.n - 1 ≤ c.args.i = omega arith in
    empty_held_place _ _ _ (sym c.link_sound.ensures ∙ c.if-not-link_sound.false)
    c.held_count.ensures past c.if-held_count-ne0.false

-- `broadcasting::put_broadcasts` meets its contract: the second frame goes into the rest of the output.
use Rattle.broadcasting.specs.Broadcasting.Laws.{runs_on_said, stops_said, frame_within, rest_length}
use Rattle.frame.specs.declared.size.FrameSize.{FrameSize}
use Rattle.frame.proofs.Encoding.Laws.{over_rest}
use lib.ListN.{length}
use native.Mathlib.Omega.{arith}
use mathlib.Core.Path.{refl, ap, ◌∙◌}
use Prim.Native.Nat.{ℕ, ◌-◌, ◌≤◌}
use Rattle.broadcasting.proofs.put_broadcasts.Goals as goal

pub returns-then-not-stops : goal.returns-then-not-stops
returns-then-not-stops c = let a = c.args in
    runs_on_said a.n a.first a.ids a.stops a.list a.out.now
    _ _ _ _ (c.if-not-stops.true) c.say-front.ensures.0 c.frame_size.ensures c.accepted.ensures
    c.say-front.ensures.1

-- the first frame ends within the output
within : (c : goal.Else-not-stops) → let a = c.args in
    c.say-front.result.length ≤ length a.out.now
within c = let a = c.args in omega (
  arith,
  ap (λ (s : FrameSize). s.length) c.say-front.ensures.0,
  frame_within a.n a.first a.ids (length a.out.now),
)

pub slice_bounds-say-count : goal.slice_bounds-say-count
slice_bounds-say-count c = omega (arith, within c, c.say-front.auto)

pub slice_bounds-say-start : goal.slice_bounds-say-start
slice_bounds-say-start c = omega (arith, within c, c.say-front.auto)

pub returns : goal.returns
returns c = let a = c.args in
    let size = ap (λ (s : FrameSize). s.length) c.say-front.ensures.0 in
    stops_said a.n a.first a.ids a.stops
    a.list a.out.now _ _ _ _ _ (c.if-not-stops.false) c.say-front.ensures.0
    (rest_length c.say-front.new.out c.say-front.result.length ∙ ap (λ (k : ℕ). k - c.say-front.result.length) c.say-front.auto.out)
    c.say-back.ensures.0 c.accepted-2.ensures
    (over_rest _ _ _ _ _ _ _ size refl c.say-front.ensures.1 c.say-back.ensures.1)

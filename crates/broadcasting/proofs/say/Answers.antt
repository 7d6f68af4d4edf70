-- `broadcasting::say` meets its contract: a kind that there is not, more identifiers than the array has, and else what is put.
use Rattle.broadcasting.specs.Broadcasting.Laws.{nothing_said, unknown_frame, long_frame, put_frame}
use Rattle.frame.proofs.Message.Laws.{shape_known, shape_unknown}
use Rattle.frame.specs.Slots.{size_of}
use Rattle.limits.specs.Limits.{most_bases}
use lib.Seq.{length-take-le}
use lib.ListN.{length, take}
use native.Mathlib.Omega.{arith}
use mathlib.Core.Path.{◌≡◌, sym, ap, ◌∙◌}
use Prim.Native.Nat.{ℕ}
use Rattle.broadcasting.proofs.say.Goals as goal

pub returns-in_default : goal.returns-in_default
returns-in_default c = let a = c.args in
    nothing_said _ _ c.frame_size.ensures (unknown_frame a.n a.kind a.ids _
    (shape_unknown a.kind a.n (sym c.shape_of.ensures ∙ c.in_default.is)))

pub returns-then-count-gt-MOST_BASES : goal.returns-then-count-gt-MOST_BASES
returns-then-count-gt-MOST_BASES c = let a = c.args in
    let k = shape_known a.kind
    a.n (sym c.shape_of.ensures ∙ c.in-Known.is) in
    nothing_said _ _ c.frame_size-then-count-gt-MOST_BASES.ensures (long_frame a.n a.kind a.ids _ (omega (
      arith,
      k.1.0,
      c.if-count-gt-MOST_BASES.true,
    )))

pub slice_bounds-put-end : goal.slice_bounds-put-end
slice_bounds-put-end c = let z : length c.args.ids ≡ most_bases = c.well_formed.1.1.0.1.0.1 in
    sym (length-take-le _ c.args.ids (omega arith))

pub returns : goal.returns
returns c = let a = c.args in
    let k = shape_known a.kind
    a.n (sym c.shape_of.ensures
    ∙ c.in-Known.is) in
    let z : length a.ids ≡ most_bases = c.well_formed.1.1.0.1.0.1 in
    let p = put_frame a.n a.kind a.ids (take c.in-Known.count
    a.ids) a.out.now (omega (arith, k.1.0))
    (ap (λ (m : ℕ). take m a.ids) k.1.0) (length-take-le _ a.ids (omega arith) ∙ k.1.0) in
    (c.put.ensures.0 ∙ ap size_of p.0, c.put.ensures.1 ∙ p.1)

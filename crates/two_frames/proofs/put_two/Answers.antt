-- `two_frames::put_two` meets its contract: the second frame lies in the rest of the output, right behind the first.
use mathlib.Core.Path.{refl, sym, ap, ◌∙◌}
use native.Mathlib.Omega.{arith}
use Prim.Native.Nat.{◌≤◌}
use lib.ListN.{length}
use Rattle.lists.specs.Choice.Laws.{chosen_no}
use Rattle.frame.specs.declared.size.FrameSize.{FrameSize}
use Rattle.two_frames.specs.TwoFrames.{two_sizes, two_output}
use Rattle.two_frames.specs.TwoFrames.Laws.{front_within, two_put}
use Rattle.two_frames.proofs.put_two.Goals as goal

pub returns-then-not-two_fit : goal.returns-then-not-two_fit
unfolding two_sizes two_output
returns-then-not-two_fit c =
    let e = sym c.two_fit.ensures ∙ c.if-not-two_fit.true in
    (chosen_no _ e (ap (λ (s : FrameSize). record { front = s; next = s }) c.frame_size-none.ensures), chosen_no _ e refl)

within : (c : goal.After-slice_known-2-1) → c.put-front.result.length ≤ length c.put-front.new.out
within c =
    let fit = sym c.two_fit.ensures ∙ c.if-not-two_fit.false in
    let a = c.args in
    omega (
      arith,
      c.put-front.auto,
      front_within a.n a.kind a.next a.ids.now a.out.now fit _ c.put-front.ensures.0,
    )

pub slice_bounds-put-count : goal.slice_bounds-put-count
slice_bounds-put-count c = within c

pub slice_bounds-put-start : goal.slice_bounds-put-start
slice_bounds-put-start c = omega (arith, within c)

pub returns : goal.returns
returns c =
    let a = c.args in
    let fit = sym c.two_fit.ensures ∙ c.if-not-two_fit.false in
    two_put a.n a.kind a.next a.ids.now a.out.now fit _ c.put-front.ensures.0 _ _ _ (omega (arith, c.put-front.auto))
    c.put-front.ensures.1 c.put-back.ensures.0 c.put-back.ensures.1

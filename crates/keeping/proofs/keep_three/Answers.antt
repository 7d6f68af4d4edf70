-- `keeping::keep_three` meets its contract: the frames that are left, kept on the base so far, give what all of them give.
use Prim.Native.Nat.{ℕ, ◌+◌, ◌≤◌, ◌-◌}
use mathlib.Core.Path.{refl, sym, ◌∙◌}
use mathlib.Core.List.{List, [], ◌∷◌}
use mathlib.Core.Logic.{⊎_elim}
use native.Mathlib.Omega.{arith}
use Rattle.lists.specs.Choice.Laws.{chosen_no}
use Rattle.node.specs.Node.{with_base}
use Rattle.keeping.specs.Keeping.{kept_three}
use Rattle.keeping.specs.Keeping.Laws.{FitsHere, fits_here, kept_here, all_kept, three_fit_lem, kept_three_lem}
use Rattle.keeping.specs.Keeping.Laws.{part_length, kept_none, kept_full, kept_more}
use Rattle.keeping.proofs.keep_three.Goals as goal
use Rattle.keeping.proofs.keep_three.Goals.{then-len-ne0+then-count-lt-MOST_BROADCASTS}
use Rattle.keeping.proofs.keep_three.Goals.{then-len-ne0+else-count-lt-MOST_BROADCASTS, else-len-ne0}

pub returns-then-not-three_fit : goal.returns-then-not-three_fit
unfolding with_base kept_three
returns-then-not-three_fit c = chosen_no _ (sym c.three_fit.ensures ∙ c.if-not-three_fit.true) refl

pub loop-i-init : goal.loop-i-init
loop-i-init c = (omega arith, (three_fit_lem (sym c.three_fit.ensures ∙ c.if-not-three_fit.false), refl))

pub bounds-lengths-i : goal.bounds-lengths-i
bounds-lengths-i c = c.loop-i-test.true

pub frame_of-frame-requires : goal.frame_of-frame-requires
frame_of-frame-requires c = let lengths_at : List ℕ = let a = c.args in a.first ∷ (a.second ∷ (a.third ∷ [])) in
    let fits : FitsHere lengths_at c.args.out.now c.loop-i.from c.loop-i.i =
    fits_here lengths_at c.args.out.now _ _ c.loop-i-test.true c.loop-i.invariant.1.0 in
    let F = fits in (F.0, omega (arith, F.1.0))

pub overflow_add-from : goal.overflow_add-from
overflow_add-from c = let lengths_at : List ℕ = let a = c.args in a.first ∷ (a.second ∷ (a.third ∷ [])) in
    let fits : FitsHere lengths_at c.args.out.now c.loop-i.from c.loop-i.i =
    fits_here lengths_at c.args.out.now _ _ c.loop-i-test.true c.loop-i.invariant.1.0 in
    record { fits = omega (arith, fits.1.0, c.well_formed.1.1.0.0) }

-- a turn leaves the base with this frame kept: one broadcast more, no room, or no frame
pub loop-i-preserved : goal.loop-i-preserved
loop-i-preserved c = let lengths_at : List ℕ = let a = c.args in a.first ∷ (a.second ∷ (a.third ∷ [])) in
    let fits : FitsHere lengths_at c.args.out.now c.loop-i.from c.loop-i.i =
    fits_here lengths_at c.args.out.now _ _ c.loop-i-test.true c.loop-i.invariant.1.0 in
    let F = fits in
    let more : c.loop-i.i + 1 ≤ 3 = omega arith in
    let l = part_length _ _ _ F.1.0 in (
      more,
      (
        F.1.1,
        kept_here lengths_at _ _ _ c.loop-i-test.true _ (elim c.if-len-ne0.branch [
          | then-len-ne0+then-count-lt-MOST_BROADCASTS w ↦ w.after-is ∙ kept_more _ _ (λ z. w.if-len-ne0.true (sym l
              ∙ z)) w.if-count-lt-MOST_BROADCASTS.true w.frame_of-frame.ensures
          | then-len-ne0+else-count-lt-MOST_BROADCASTS w ↦ w.after-is ∙ kept_full _ _ (λ z. w.if-len-ne0.true (sym l
              ∙ z)) w.if-count-lt-MOST_BROADCASTS.false
          | else-len-ne0 w ↦ w.after-is ∙ kept_none _ _ (l ∙ w.if-len-ne0.false)
        ]) ∙ c.loop-i.invariant.1.1,
      ),
    )

pub returns : goal.returns
unfolding with_base
returns c =
    let a = c.args in
    all_kept (a.first ∷ (a.second ∷ (a.third ∷ []))) _ c.loop-i.from c.loop-i.i (omega arith) c.loop-i.invariant.1.1
    ∙ kept_three_lem _ _ _ _ _ (three_fit_lem (sym c.three_fit.ensures ∙ c.if-not-three_fit.false))

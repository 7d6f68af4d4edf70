-- `bursts::distance_refusal` meets its contract: each return is the definition at the tests that led there.
use mathlib.Core.Path.{refl, sym, ap, ◌∙◌}
use mathlib.Core.Bool.{not}
use native.Mathlib.Omega.{arith}
use borrow.Author.Tests.{lt-ltb, le-ltb, eq-eqb, ne_eqb}
use lib.ListN.{length}
use Rattle.lists.specs.Choice.Laws.{chosen_yes, chosen_no, or_first, or_second, or_neither}
use Rattle.frame.specs.Reading.{back_distance, distance_refusal}
use Rattle.bursts.proofs.distance_refusal.Goals as goal

pub returns-then-back-size : goal.returns-then-back-size
unfolding distance_refusal
returns-then-back-size c =
    let p = c.requires.1 in
    chosen_yes _ (or_first _ (ap not (ne_eqb _ _ (λ e. c.if-back-size.true (c.back_distance-back.ensures ∙ e ∙ sym p))))) refl

pub returns-then-burst-back : goal.returns-then-burst-back
unfolding distance_refusal
returns-then-burst-back c =
    let s = c.args.burst.now in
    chosen_yes _ (or_second _ (lt-ltb (length s) (back_distance s) (omega (arith, c.back_distance-back.ensures)))) refl

pub returns : goal.returns
unfolding distance_refusal
returns c =
    let a = c.args in
    let pre = c.requires in
    let back-distance = c.back_distance-back in
    let s = a.burst.now in
    let b = back-distance.ensures in
    chosen_no _
    (or_neither (ap not (eq-eqb _ _ (sym b ∙ c.if-back-size.false ∙ pre.1))) (le-ltb (length s) (back_distance s) (omega (arith, b)))) refl

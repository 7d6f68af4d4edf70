-- `limits::size_refusal` meets its contract: the number of the net's size, and where it gives none the test of t.
use mathlib.Core.Path.{refl, sym, ◌∙◌}
use native.Mathlib.Omega.{arith}
use borrow.Author.Tests.{lt-ltb, le-ltb}
use Rattle.lists.specs.Choice.Laws.{chosen_yes, chosen_no, first_none, first_given}
use Rattle.limits.specs.Limits.{most_faulty}
use Rattle.limits.specs.Refusals.{size_refusal}
use Rattle.limits.proofs.size_refusal.Goals as goal

pub returns-then-net-ne0 : goal.returns-then-net-ne0
unfolding size_refusal
returns-then-net-ne0 c = let e = c.net_refusal-net.ensures in e ∙ sym (first_given _ (λ z. c.if-net-ne0.true (e ∙ z)))

pub returns-then-most_faulty-t : goal.returns-then-most_faulty-t
unfolding size_refusal
returns-then-most_faulty-t c =
    let a = c.args in
    chosen_yes _ (lt-ltb (most_faulty a.n) a.t (omega (arith, c.if-most_faulty-t.true, c.most_faulty.ensures))) refl
    ∙ sym (first_none _ (sym c.net_refusal-net.ensures ∙ c.if-net-ne0.false))

pub returns : goal.returns
unfolding size_refusal
returns c =
    let a = c.args in
    chosen_no _ (le-ltb (most_faulty a.n) a.t (omega (arith, c.if-most_faulty-t.false, c.most_faulty.ensures))) refl
    ∙ sym (first_none _ (sym c.net_refusal-net.ensures ∙ c.if-net-ne0.false))

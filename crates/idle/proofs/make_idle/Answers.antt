-- `idle::make_idle` meets its contract. Where no number is given, n and t are small.
use Prim.Native.Nat.{ℕ}
use mathlib.Core.Path.{sym, ap₂, ◌∙◌}
use native.Mathlib.Omega.{arith}
use borrow.Author.Tests.{eq-eqb, ne_eqb}
use Rattle.idle.specs.Made.{made_of}
use Rattle.idle.specs.declared.Made.{Made}
use Rattle.protocol.proofs.Sound.Laws.{setting_passed}
use Rattle.protocol.specs.declared.Base.{Base}
use Rattle.lists.specs.Choice.Laws.{chosen_yes, chosen_no}
use Rattle.idle.proofs.make_idle.Goals as goal

made : ℕ → Base → Made
made r b = record { refusal = r; base = b }

pub returns-then-refusal-ne0 : goal.returns-then-refusal-ne0
unfolding made_of made
returns-then-refusal-ne0 c = let e = c.setting_refusal-refusal.ensures in
    ap₂ made e (chosen_no _ (ne_eqb _ 0 (λ z. c.if-refusal-ne0.true (e ∙ z))) c.idle_base.ensures)

pub overflow_cast-n : goal.overflow_cast-n
overflow_cast-n c = let a = c.args in
    let p = setting_passed a.n a.t a.own (sym c.setting_refusal-refusal.ensures ∙ c.if-refusal-ne0.false) in omega (arith, p.0.most)

pub overflow_cast-t : goal.overflow_cast-t
overflow_cast-t c = let a = c.args in let p = setting_passed
    a.n a.t a.own (sym c.setting_refusal-refusal.ensures ∙ c.if-refusal-ne0.false) in omega (arith, p.0.most, p.1)

pub returns : goal.returns
unfolding made_of made
returns c = let e = c.setting_refusal-refusal.ensures in
    ap₂ made e (chosen_yes _ (eq-eqb _ 0 (sym e ∙ c.if-refusal-ne0.false)) c.idle_base-2.ensures)

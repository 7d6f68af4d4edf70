-- `responding::say_response` meets its contract: a message that is discarded broadcasts nothing.
use Rattle.responding.specs.Responding.{response_frames, response_outcome}
use Rattle.frame.specs.Encoding.{over}
use Rattle.frame.proofs.Encoding.Laws.{over_nothing}
use Rattle.lists.specs.Choice.Laws.{choose_yes, choose_no}
use mathlib.Core.List.{List}
use mathlib.Core.Path.{sym, ap, ◌∙◌}
use Prim.Native.Nat.{ℕ}
use Rattle.responding.proofs.say_response.Goals as goal

pub returns-then-not-accepted : goal.returns-then-not-accepted
unfolding response_frames response_outcome
returns-then-not-accepted c = let t = c.if-not-accepted.true in let o = c.args.out.now in
    (sym (choose_no _ _ t), sym (ap (λ (s : List ℕ). over s o) (choose_no _ _ t) ∙ over_nothing o))

pub returns : goal.returns
unfolding response_frames response_outcome
returns c =
    let t = c.if-not-accepted.false in let w = c.put_broadcasts.ensures in
    let o = c.args.out.now in
    (w.0 ∙ sym (choose_yes _ _ t), w.1 ∙ sym (ap (λ (s : List ℕ). over s o) (choose_yes _ _ t)))

-- `faulty_sets::set_refusal` meets its contract: the net's numbers, then 20 from the count on.
use native.Mathlib.Omega.{arith}
use Rattle.link_sets.proofs.Theorem.{some_set}
use Rattle.faulty_sets.specs.Answers.Laws.{number_before, number_past, number_there}
use Rattle.faulty_sets.proofs.set_refusal.Goals as goal

pub returns-then-small-ne0 : goal.returns-then-small-ne0
returns-then-small-ne0 c = number_before _ _ c.small_refusal-small.ensures c.if-small-ne0.true _

pub overflow_sub-last : goal.overflow_sub-last
overflow_sub-last c = omega (arith, c.set_count-last.ensures, some_set c.args.n c.args.t)

pub returns-then-last-number : goal.returns-then-last-number
returns-then-last-number c = number_past _ _ c.small_refusal-small.ensures c.if-small-ne0.false
    c.set_count-last.ensures _ c.if-last-number.true

pub returns : goal.returns
returns c = number_there _ _ c.small_refusal-small.ensures c.if-small-ne0.false
    c.set_count-last.ensures _ c.if-last-number.false

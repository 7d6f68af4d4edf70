-- `frame::kind::shape_of` meets its contract: each arm is a kind of the definition, and the last is none of them.
use borrow.Author.Tests.{ne_eqb}
use Rattle.lists.specs.Choice.{choose, or}
use Rattle.frame.specs.Message.{shape_of, known, holds_one, holds_all, expected}
use Rattle.frame.proofs.kind.shape_of.Goals as goal

pub returns-in-1 : goal.returns-in-1
unfolding shape_of known holds_one holds_all expected choose or
returns-in-1 c = simp c.in-1.is c.holding.ensures

pub returns-in-2 : goal.returns-in-2
unfolding shape_of known holds_one holds_all expected choose or
returns-in-2 c = simp c.in-2.is c.holding-in-2.ensures

pub returns-in-3 : goal.returns-in-3
unfolding shape_of known holds_one holds_all expected choose or
returns-in-3 c = simp c.in-3.is c.holding-in-3.ensures

pub returns-in-4 : goal.returns-in-4
unfolding shape_of known holds_one holds_all expected choose or
returns-in-4 c = simp c.in-4.is c.holding-in-4.ensures

pub returns-in_default : goal.returns-in_default
unfolding shape_of known holds_one holds_all expected choose or
returns-in_default c =
    let r = c.in_default.in_default-own.rest in
    simp (ne_eqb _ _ r.1, ne_eqb _ _ r.0.1, ne_eqb _ _ r.0.0.1, ne_eqb _ _ r.0.0.0.1)

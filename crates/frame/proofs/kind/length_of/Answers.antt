-- `frame::kind::length_of` meets its contract: the length that the kind's shape has.
use mathlib.Core.Path.{sym, ◌∙◌}
use Rattle.frame.proofs.Message.Laws.{shape_known, shape_unknown, length_known, length_unknown}
use Rattle.frame.proofs.kind.length_of.Goals as goal

pub returns-in-Known : goal.returns-in-Known
returns-in-Known c =
    let a = c.args in
    let s = shape_known a.kind a.n (sym c.shape_of.ensures ∙ c.in-Known.is) in
    s.1.1 ∙ sym (length_known a.kind a.n s.0)

pub returns-in-Unknown : goal.returns-in-Unknown
returns-in-Unknown c =
    let a = c.args in
    sym (length_unknown a.kind a.n (shape_unknown a.kind a.n (sym c.shape_of.ensures ∙ c.in-Unknown.is)))

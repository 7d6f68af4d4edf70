-- `frame::kind::kind_refusal` meets its contract: the shape says whether there is such a kind, and how many identifiers it holds.
use mathlib.Core.Path.{sym, ◌∙◌}
use Rattle.frame.proofs.Message.Laws.{shape_known, shape_unknown}
use Rattle.frame.proofs.Reading.Laws.{kind_unknown, kind_count, kind_passes}
use Rattle.frame.proofs.kind.kind_refusal.Goals as goal

pub returns-in_default : goal.returns-in_default
returns-in_default c =
    let a = c.args in
    sym (kind_unknown a.n a.kind a.count (shape_unknown a.kind a.n (sym c.shape_of.ensures ∙ c.in_default.is)))

pub returns-then-count-held : goal.returns-then-count-held
returns-then-count-held c =
    let a = c.args in
    let s = shape_known a.kind a.n (sym c.shape_of.ensures ∙ c.in-Known.is) in
    sym (kind_count a.n a.kind a.count s.0 (λ e. c.if-count-held.true (e ∙ sym s.1.0)))

pub returns : goal.returns
returns c =
    let a = c.args in
    let s = shape_known a.kind a.n (sym c.shape_of.ensures ∙ c.in-Known.is) in
    sym (kind_passes a.n a.kind a.count s.0 (c.if-count-held.false ∙ s.1.0))

-- `messages::message_refusal` meets its contract: the kind's shape, what stands behind the identifiers, and the list.
use Rattle.messages.specs.Messages.Laws.{message_unknown, message_behind, message_list, list_within}
use Rattle.frame.proofs.Message.Laws.{shape_known, shape_unknown}
use Rattle.limits.specs.Limits.{most_bases}
use lib.Seq.{length-take-le}
use lib.ListN.{length}
use native.Mathlib.Omega.{arith}
use mathlib.Core.Path.{◌≡◌, sym, ◌∙◌}
use mathlib.Core.Bool.{true}
use Rattle.messages.proofs.message_refusal.Goals as goal

pub returns-in_default : goal.returns-in_default
returns-in_default c = let a = c.args in message_unknown
    a.n a.kind a.ids (shape_unknown a.kind a.n (sym c.shape_of.ensures ∙ c.in_default.is))

pub returns-then-not-zero_behind : goal.returns-then-not-zero_behind
returns-then-not-zero_behind c = let a = c.args in let k = shape_known a.kind a.n
    (sym c.shape_of.ensures ∙ c.in-Known.is) in
    message_behind a.n a.kind a.ids _ k.0 k.1.0 (sym c.zero_behind.ensures ∙ c.if-not-zero_behind.true)

pub slice_bounds-list_refusal-end : goal.slice_bounds-list_refusal-end
slice_bounds-list_refusal-end c = let ids_long : length c.args.ids ≡ most_bases = c.well_formed.1.1.0.1.0.1 in
    sym (length-take-le _ c.args.ids (omega (arith, ids_long, c.least-end.ensures)))

pub returns : goal.returns
returns c = let ids_long : length c.args.ids ≡ most_bases = c.well_formed.1.1.0.1.0.1 in
    let a = c.args in
    let k = shape_known a.kind a.n (sym c.shape_of.ensures
    ∙ c.in-Known.is) in
    message_list a.n a.kind a.ids _ _ k.0 k.1.0
    (sym c.zero_behind.ensures ∙ c.if-not-zero_behind.false)
    (c.list_refusal.ensures
    ∙ list_within _ c.in-Known.count _ ids_long c.least-end.ensures)

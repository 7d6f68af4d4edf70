-- `bursts::check` meets its contract: the checks stand in the order of the definition, and what one passes the next may ask.
use mathlib.Core.Path.{sym, ◌∙◌}
use Rattle.frame.proofs.Reading.Laws.{passed_framed}
use Rattle.frame.specs.Reading.{read_refusal, burst_refusal}
use Rattle.lists.specs.Choice.Laws.{first_none, first_given}
use Rattle.limits.specs.Refusals.Laws.{net_passed}
use Rattle.bursts.proofs.check.Goals as goal

pub returns-then-net-ne0 : goal.returns-then-net-ne0
unfolding read_refusal
returns-then-net-ne0 c = let e = c.net_refusal-net.ensures in e ∙ sym (first_given _ (λ z. c.if-net-ne0.true (e ∙ z)))

pub trailer_refusal-trailer-requires : goal.trailer_refusal-trailer-requires
trailer_refusal-trailer-requires c = (net_passed _ (sym c.net_refusal-net.ensures ∙ c.if-net-ne0.false)).most

pub returns-then-trailer-ne0 : goal.returns-then-trailer-ne0
unfolding read_refusal burst_refusal
returns-then-trailer-ne0 c =
    let net-refusal = c.net_refusal-net in
    let e = c.trailer_refusal-trailer.ensures in
    e ∙ sym (first_none _ (sym net-refusal.ensures ∙ c.if-net-ne0.false) ∙ first_given _ (λ z. c.if-trailer-ne0.true (e ∙ z)))

pub body_refusal-requires : goal.body_refusal-requires
body_refusal-requires c =
    let a = c.args in
    let net-refusal = c.net_refusal-net in
    passed_framed a.n _ (net_passed _ (sym net-refusal.ensures ∙ c.if-net-ne0.false))
    (sym c.trailer_refusal-trailer.ensures ∙ c.if-trailer-ne0.false)

pub returns : goal.returns
unfolding read_refusal burst_refusal
returns c =
    let net-refusal = c.net_refusal-net in
    let trailer-refusal = c.trailer_refusal-trailer in
    c.body_refusal.ensures
    ∙ sym (first_none _ (sym net-refusal.ensures ∙ c.if-net-ne0.false) ∙ first_none _ (sym trailer-refusal.ensures
    ∙ c.if-trailer-ne0.false))

-- `writer::write_refusal` meets its contract: a law of the definition for each test that led to a return.
use mathlib.Core.Path.{sym, ◌∙◌}
use native.Mathlib.Omega.{arith}
use Rattle.limits.specs.Refusals.Laws.{net_passed}
use Rattle.writer.specs.Writing.Laws.{write_outside, write_short, write_kind, write_list}
use Rattle.writer.proofs.write_refusal.Goals as goal

pub returns-then-net-ne0 : goal.returns-then-net-ne0
returns-then-net-ne0 c =
    let a = c.args in
    let e = c.net_refusal-net.ensures in
    e ∙ sym (write_outside a.n a.kind a.ids.now a.room (λ z. c.if-net-ne0.true (e ∙ z)))

pub overflow_cast-n : goal.overflow_cast-n
overflow_cast-n c =
    let a = c.args in
    omega (arith, (net_passed a.n (sym c.net_refusal-net.ensures ∙ c.if-net-ne0.false)).most)

pub returns-then-room-length_of : goal.returns-then-room-length_of
returns-then-room-length_of c =
    let a = c.args in
    let z = sym c.net_refusal-net.ensures ∙ c.if-net-ne0.false in
    sym (write_short a.n a.kind a.ids.now a.room z (omega (arith, c.length_of.ensures)))

pub overflow_cast-n-2 : goal.overflow_cast-n-2
overflow_cast-n-2 c =
    let z = sym c.net_refusal-net.ensures ∙ c.if-net-ne0.false in
    omega (arith, (net_passed c.args.n z).most)

pub returns-then-number-ne0 : goal.returns-then-number-ne0
returns-then-number-ne0 c =
    let net-refusal = c.net_refusal-net in
    let length-of = c.length_of in
    let a = c.args in
    let z = sym net-refusal.ensures ∙ c.if-net-ne0.false in
    let e = c.kind_refusal-number.ensures in
    e ∙ sym (write_kind a.n a.kind a.ids.now a.room z (omega (arith, length-of.ensures)) (λ q. c.if-number-ne0.true (e ∙ q)))

pub returns : goal.returns
returns c =
    let net-refusal = c.net_refusal-net in
    let length-of = c.length_of in
    let kind-refusal = c.kind_refusal-number in
    let a = c.args in
    let z = sym net-refusal.ensures ∙ c.if-net-ne0.false in
    let e = sym kind-refusal.ensures ∙ c.if-number-ne0.false in
    c.list_refusal.ensures ∙ sym (write_list a.n a.kind a.ids.now a.room z (omega (arith, length-of.ensures)) e)

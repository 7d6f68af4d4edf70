-- `accepting::verified` meets its contract. A link that is not full has held at most n identifiers, so that the count does not wrap.
use mathlib.Core.Bool.{true}
use Rattle.accepting.specs.Accepting.Laws.{verify_counted, verify_nowhere}
use Rattle.protocol.specs.declared.Link.{Link}
use Rattle.protocol.proofs.Sizes.{link_sized}
use native.Mathlib.Omega.{arith}
use mathlib.Core.Path.{ap}
use Rattle.accepting.specs.Accepting.Laws.{when_discarded, when_accepted}
use Rattle.accepting.specs.Accepting.{on_verify_link}
use Rattle.protocol.specs.Steps.{with_verify}
use Rattle.lists.specs.Choice.Laws.{or_first, or_second, or_neither}
use mathlib.Core.Path.{sym, ◌∙◌}
use borrow.Author.Rules.{rules}
use Rattle.accepting.proofs.verified.Goals as goal

pub returns-then-holds_verify : goal.returns-then-holds_verify
unfolding on_verify_link
returns-then-holds_verify c = when_discarded _ _ (or_first _ (sym c.holds_verify.ensures ∙ c.if-holds_verify.true))

pub returns-then-is_full : goal.returns-then-is_full
unfolding on_verify_link
returns-then-is_full c = when_discarded _ _ (or_second _ (sym c.is_full.ensures ∙ c.if-is_full.true))

pub overflow_add-next : goal.overflow_add-next
overflow_add-next c =
    record { fits = verify_counted _ _ (sym c.is_full.ensures ∙ c.if-is_full.false) (search rules) }

pub returns-then-at-ge-LIST_ROOM : goal.returns-then-at-ge-LIST_ROOM
unfolding on_verify_link
returns-then-at-ge-LIST_ROOM c =
    let p = or_neither (sym c.holds_verify.ensures
    ∙ c.if-holds_verify.false)
    (sym c.is_full.ensures ∙ c.if-is_full.false) in
    let e = verify_nowhere c.args.link c.args.g (omega (arith, (link_sized c.args.link _ c.well_formed.1.0).verifies)) in
    ap (λ (l : Link). record { accepted = true; link = l }) e ∙ when_accepted _ _ p

pub returns : goal.returns
unfolding on_verify_link with_verify
returns c =
    let p = or_neither (sym c.holds_verify.ensures
    ∙ c.if-holds_verify.false)
    (sym c.is_full.ensures ∙ c.if-is_full.false) in
    when_accepted _ _ p

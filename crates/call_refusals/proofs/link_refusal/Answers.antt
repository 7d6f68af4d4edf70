-- `call_refusals::link_refusal` meets its contract, by where the link stands.
use mathlib.Core.Path.{sym}
use Rattle.protocol.proofs.Steps.Refusals.{link_short, link_far, link_near}
use Rattle.call_refusals.proofs.link_refusal.Goals as goal

pub returns-then-link-lt1 : goal.returns-then-link-lt1
returns-then-link-lt1 c = sym (link_short _ _ c.if-link-lt1.true)

pub returns-then-n-link : goal.returns-then-n-link
returns-then-n-link c = sym (link_far _ _ c.if-link-lt1.false c.if-n-link.true)

pub returns : goal.returns
returns c = sym (link_near _ _ c.if-link-lt1.false c.if-n-link.false)

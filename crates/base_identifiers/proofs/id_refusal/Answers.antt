-- `base_identifiers::id_refusal` meets its contract: 3, then 14.
use Rattle.base_identifiers.specs.Identifiers.Laws.{no_identifier, two_owners, one_owner}
use Rattle.base_identifiers.proofs.id_refusal.Goals as goal

pub returns-then-own-ne0 : goal.returns-then-own-ne0
returns-then-own-ne0 c = no_identifier _ _ c.own_refusal-own.ensures c.if-own-ne0.true

pub returns-then-is_named : goal.returns-then-is_named
returns-then-is_named c = two_owners _ _ c.own_refusal-own.ensures c.if-own-ne0.false
    c.is_named.ensures c.if-is_named.true

pub returns : goal.returns
returns c = one_owner _ _ c.own_refusal-own.ensures c.if-own-ne0.false
    c.is_named.ensures c.if-is_named.false

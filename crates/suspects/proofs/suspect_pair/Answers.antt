-- `suspects::suspect_pair` meets its contract: each return is the definition at the tests that led there.
use mathlib.Core.Path.{sym, ◌∙◌}
use borrow.Author.Tests.{eq-eqb, ne_eqb}
use Rattle.suspects.proofs.Pairs.{pair_lacks, pair_back}
use Rattle.protocol.specs.Record.{suspect_pair}
use Rattle.protocol.specs.Links.{announces, holds_verify, verifies_of}
use Rattle.lists.specs.Choice.{and}
use Rattle.suspects.proofs.suspect_pair.Goals as goal

pub returns-then-g-eq0 : goal.returns-then-g-eq0
unfolding suspect_pair announces and
returns-then-g-eq0 c = simp (eq-eqb _ _ c.if-g-eq0.true)

pub returns-then-h-eq0 : goal.returns-then-h-eq0
unfolding suspect_pair announces and
returns-then-h-eq0 c = simp (ne_eqb _ _ c.if-g-eq0.false, eq-eqb _ _ c.if-h-eq0.true)

pub returns-then-not-holds : goal.returns-then-not-holds
unfolding holds_verify verifies_of
returns-then-not-holds c = let a = c.args in
    pair_lacks a.a a.b c.if-g-eq0.false c.if-h-eq0.false (sym c.holds.ensures ∙ c.if-not-holds.true)

pub returns : goal.returns
unfolding holds_verify verifies_of
returns c = let a = c.args in
    pair_back a.a a.b c.if-g-eq0.false c.if-h-eq0.false
    (sym c.holds.ensures ∙ c.if-not-holds.false) c.holds-2.ensures

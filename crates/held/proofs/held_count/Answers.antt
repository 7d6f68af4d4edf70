-- `held::held_count` meets its contract: the Announce counts where it is not zero.
use native.Mathlib.Nat.{add-zero}
use borrow.Author.Tests.{eq-eqb, ne_eqb}
use Rattle.protocol.specs.Links.{used, announces}
use Rattle.counting.specs.Sums.{bit}
use Rattle.held.proofs.held_count.Goals as goal

pub returns-then-link-eq0 : goal.returns-then-link-eq0
unfolding used announces bit
returns-then-link-eq0 c = simp (eq-eqb _ _ c.if-link-eq0.true, add-zero)

pub returns : goal.returns
unfolding used announces bit
returns c = simp (ne_eqb _ _ c.if-link-eq0.false)

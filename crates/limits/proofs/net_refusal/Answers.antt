-- `limits::net_refusal` meets its contract: each return is the definition at the tests that led there.
use borrow.Author.Tests.{lt-ltb, le-ltb}
use Rattle.limits.specs.Refusals.{net_refusal}
use Rattle.lists.specs.Choice.{choose, or}
use Rattle.limits.proofs.net_refusal.Goals as goal

pub returns-then-n-lt-FEWEST_BASES : goal.returns-then-n-lt-FEWEST_BASES
unfolding net_refusal choose or
returns-then-n-lt-FEWEST_BASES c = simp (lt-ltb _ _ c.if-n-lt-FEWEST_BASES.true)

pub returns-then-n-gt-MOST_BASES : goal.returns-then-n-gt-MOST_BASES
unfolding net_refusal choose or
returns-then-n-gt-MOST_BASES c = simp (le-ltb _ _ c.if-n-lt-FEWEST_BASES.false, lt-ltb _ _ c.if-n-gt-MOST_BASES.true)

pub returns : goal.returns
unfolding net_refusal choose or
returns c = simp (le-ltb _ _ c.if-n-lt-FEWEST_BASES.false, le-ltb _ _ c.if-n-gt-MOST_BASES.false)

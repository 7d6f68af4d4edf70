-- `lines::bases::is_base` meets its contract: the two tests.
use borrow.Author.Tests.{lt-leb, le-leb}
use Rattle.lists.specs.Choice.{and}
use Rattle.lines.specs.Lines.{is_base}
use Rattle.lines.proofs.bases.is_base.Goals as goal

pub returns-then-b-lt1 : goal.returns-then-b-lt1
unfolding is_base and
returns-then-b-lt1 c = rw (lt-leb 1 _ c.if-b-lt1.true)

pub returns : goal.returns
unfolding is_base and
returns c = rw (le-leb 1 _ c.if-b-lt1.false)

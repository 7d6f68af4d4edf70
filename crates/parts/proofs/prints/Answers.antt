-- Both ends of the signs that print.
use native.Mathlib.Omega.{arith}
use borrow.Author.Tests.{le-leb, lt-leb}
use mathlib.Core.Path.{refl}
use Rattle.lists.specs.Choice.Laws.{and_fails, and_goes_on}
use Rattle.parts.specs.Parts.{printing}
use Rattle.parts.proofs.prints.Goals as goal

pub returns-then-b-lt32 : goal.returns-then-b-lt32
unfolding printing
returns-then-b-lt32 c = and_fails _ (lt-leb 32 c.args.b (omega arith))

pub returns : goal.returns
unfolding printing
returns c = and_goes_on (le-leb 32 c.args.b (omega arith)) refl

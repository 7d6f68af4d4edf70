-- `counting::one` meets its contract, by the test's two outcomes.
use mathlib.Core.Path.{sym, ap}
use native.Mathlib.Omega.{arith}
use Rattle.counting.specs.Sums.{bit}
use Rattle.counting.proofs.one.Goals as goal

pub returns-then-test : goal.returns-then-test
unfolding bit
returns-then-test c = (sym (ap bit c.if-test.true), omega arith)

pub returns : goal.returns
unfolding bit
returns c = (sym (ap bit c.if-test.false), omega arith)

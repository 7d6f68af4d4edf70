-- `print_fields::decimal::decimal` meets its contract. Invariant: the digits of the rest, and behind them the array from `start` on, are
-- the number's.
use native.Mathlib.Omega.{arith}
use Prim.Native.Nat.{ℕ}
use mathlib.Core.Path.{refl}
use lib.ListN.{replicate, length-set, length-replicate}
use Rattle.print.specs.Decimal.{most_digits}
use Rattle.print.specs.Decimal.Laws.{digits_begin, digits_last, decimal_more, digits_all}
use Rattle.print_fields.proofs.decimal.decimal.Goals as goal

pub loop-start-init : goal.loop-start-init
loop-start-init c =
    (omega arith, (refl, digits_begin c.args.v (replicate most_digits 0) (omega (arith, length-replicate {A = ℕ} most_digits 0))))

pub returns-then-rest-lt10 : goal.returns-then-rest-lt10
returns-then-rest-lt10 c = (
  omega arith,
  (
    simp length-set c.loop-start.invariant.1.0,
    digits_last _ _ _ _ _ c.loop-start-test.true
        (omega arith) c.if-rest-lt10.true c.digit.ensures c.loop-start.invariant.1.1,
  ),
)

pub loop-start-preserved : goal.loop-start-preserved
loop-start-preserved c = (
  omega arith,
  (
    simp length-set c.loop-start.invariant.1.0,
    decimal_more _ _ _ _ _ c.loop-start-test.true
        (omega arith) c.if-rest-lt10.false c.digit.ensures c.loop-start.invariant.1.1,
  ),
)

pub returns : goal.returns
returns c = (omega arith, (c.loop-start.invariant.1.0, digits_all _ _ _ _ c.loop-start-test.false c.loop-start.invariant.1.1))

-- `print_fields::decimal::decimal` meets its contract. Invariant: the digits of the rest, and behind them the array from `start` on, are
-- the number's.
use Prim.Native.Nat.{◌≤◌}
use mathlib.Core.Path.{◌≡◌}
use mathlib.Core.List.{◌++◌}
use lib.ListN.{length, drop}
use Rattle.print.specs.Decimal.{most_digits, last_digits, decimal_text}
use Rattle.print_fields.proofs.decimal.decimal.Given as goal

abbrev pub invariant-loop-start : goal.invariant-loop-start
invariant-loop-start l =
    (l.start ≤ most_digits) × ((length l.bytes ≡ most_digits) × (decimal_text l.v ≡ last_digits l.start l.rest ++ drop l.start l.bytes))

abbrev pub decreases-loop-start : goal.decreases-loop-start
decreases-loop-start l = l.start

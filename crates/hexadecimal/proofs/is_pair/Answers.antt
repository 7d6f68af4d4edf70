-- `hexadecimal::is_pair` meets its contract: the tests that led to each return; behind the end there is no digit.
use mathlib.Core.Path.{sym, ap, ◌∙◌}
use native.Mathlib.Omega.{arith}
use lib.ListN.{get_or}
use Rattle.lists.specs.Choice.{and}
use Rattle.lists.specs.Choice.Laws.{and_no, and_fails, and_goes_on}
use Rattle.hexadecimal.specs.Hex.{is_hex}
use Rattle.hexadecimal.specs.Hex.Laws.{end_no_digit}
use Rattle.hexadecimal.proofs.is_pair.Goals as goal

pub returns-then-s-i-lt2 : goal.returns-then-s-i-lt2
returns-then-s-i-lt2 c =
    let a = c.args in
    sym (ap (and (is_hex (get_or a.s.now a.i 0))) (end_no_digit a.s.now a.i (omega arith)) ∙ and_no _)

pub returns-then-is_hex : goal.returns-then-is_hex
returns-then-is_hex c = and_goes_on (sym c.is_hex.ensures ∙ c.if-is_hex.true) c.is_hex-then-is_hex.ensures

pub returns : goal.returns
returns c = and_fails _ (sym c.is_hex.ensures ∙ c.if-is_hex.false)

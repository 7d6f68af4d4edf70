-- `hexadecimal::hex_from` meets its contract. Invariant: the walk from the beginning ends as the one from i on does, count bytes being
-- counted.
use native.Mathlib.Omega.{arith}
use Prim.Native.Nat.{◌-◌}
use mathlib.Core.Path.{refl, sym, ◌∙◌}
use Rattle.hexadecimal.specs.Hex.Laws.{pair_inside, hex_at_end, from_feed, from_pair, from_other}
use Rattle.hexadecimal.proofs.hex_from.Goals as goal

pub loop-i-init : goal.loop-i-init
loop-i-init c = (omega arith, refl)

pub returns-then-s-i-eq10 : goal.returns-then-s-i-eq10
returns-then-s-i-eq10 c = sym (c.loop-i.invariant.1 ∙ from_feed _ _ _ c.loop-i-test.true c.if-s-i-eq10.true)

pub overflow_add-i : goal.overflow_add-i
overflow_add-i c =
    let s = c.args.s.now in
    let i = c.loop-i.i in
    omega (arith, pair_inside s i (sym c.is_pair.ensures ∙ c.if-is_pair.true))

pub loop-i-preserved : goal.loop-i-preserved
loop-i-preserved c =
    let loop-test = c.loop-i-test in (
      omega arith,
      c.loop-i.invariant.1 ∙ from_pair _ _ _ loop-test.true c.if-s-i-eq10.false (sym c.is_pair.ensures ∙ c.if-is_pair.true),
    )

pub returns-else-is_pair : goal.returns-else-is_pair
returns-else-is_pair c =
    let loop-test = c.loop-i-test in
    sym (c.loop-i.invariant.1 ∙ from_other _ _ _ loop-test.true c.if-s-i-eq10.false (sym c.is_pair.ensures ∙ c.if-is_pair.false))

pub returns : goal.returns
returns c = sym (c.loop-i.invariant.1 ∙ hex_at_end _ _ _ c.loop-i-test.false)

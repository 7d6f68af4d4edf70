-- `faulty_links::is_good` meets its contract: as long as no pair joins the two bases, the rest decides.
use Prim.Native.Nat.{◌<◌, ◌-◌}
use mathlib.Core.Path.{◌≡◌, refl, sym, ◌∙◌}
use native.Mathlib.Omega.{arith}
use lib.ListN.{length}
use Rattle.faulty_links.specs.Faulty.{pairs_of}
use Rattle.faulty_links.specs.Faulty.Pairs.{pairs_named, joined_there, good_broken, good_next, good_end}
use Rattle.faulty_links.proofs.Sizes.{faulty_sized}
use Rattle.faulty_links.proofs.is_good.Goals as goal

pub loop-i-init : goal.loop-i-init
loop-i-init c = let e = c.least-count.ensures in
    (pairs_named _ (faulty_sized c.args.faulty _ c.well_formed.0) e, omega (arith, e), omega arith, refl)

pub returns-then-joins_bases : goal.returns-then-joins_bases
returns-then-joins_bases c = let here : c.loop-i.i < length (pairs_of c.args.faulty) =
    omega (arith, c.loop-i.invariant.0, c.loop-i-test.true) in
    let I = c.loop-i.invariant in let h = here in
    sym (I.3 ∙ good_broken _ _ _ _ _ h (joined_there _ _ _ _ h c.joins_bases.ensures ∙ c.if-joins_bases.true))

pub loop-i-preserved : goal.loop-i-preserved
loop-i-preserved c = let here : c.loop-i.i < length (pairs_of c.args.faulty) = omega (arith, c.loop-i.invariant.0, c.loop-i-test.true) in
    let I = c.loop-i.invariant in let h = here in
    (I.0, I.1, omega arith, I.3 ∙ good_next _ _ _ _ _ h (joined_there _ _ _ _ h c.joins_bases.ensures ∙ c.if-joins_bases.false))

pub returns : goal.returns
returns c = let I = c.loop-i.invariant in
    let e : c.loop-i.i ≡ length (pairs_of c.args.faulty) = omega (arith, I.0, I.2, c.loop-i-test.false) in
    sym (I.3 ∙ good_end _ _ _ _ e)

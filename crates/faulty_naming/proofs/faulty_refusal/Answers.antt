-- `faulty_naming::faulty_refusal` meets its contract: 15 where t are named.
use Rattle.faulty_naming.specs.Naming.Limit.{too_many, few_enough}
use Rattle.faulty_links.specs.Faulty.{pairs_of}
use Rattle.faulty_links.specs.Faulty.Pairs.{pairs_named}
use mathlib.Core.Path.{◌≡◌}
use lib.ListN.{length}
use Rattle.faulty_links.proofs.Sizes.{faulty_sized}
use Rattle.faulty_naming.proofs.faulty_refusal.Goals as goal

pub returns-then-t-least : goal.returns-then-t-least
returns-then-t-least c = let named : c.least.result ≡ length (pairs_of c.args.faulty) =
    pairs_named _ (faulty_sized c.args.faulty _ c.well_formed.0) c.least.ensures in
    too_many _ _ named c.if-t-least.true

pub returns : goal.returns
returns c = let named : c.least.result ≡ length (pairs_of c.args.faulty) =
    pairs_named _ (faulty_sized c.args.faulty _ c.well_formed.0) c.least.ensures in
    few_enough _ _ named c.if-t-least.false

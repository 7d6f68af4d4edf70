-- `node::log::broadcasts` meets its contract: as many as are counted, and no more than there is room for.
use Rattle.node.proofs.Sizes.{node_sized}
use Rattle.node.specs.Node.Log.{log_length}
use native.Mathlib.Omega.{arith}
use Rattle.node.proofs.log.broadcasts.Goals as goal

pub returns-then-node-gt-MOST_BROADCASTS : goal.returns-then-node-gt-MOST_BROADCASTS
returns-then-node-gt-MOST_BROADCASTS c = let v = c.args.node in let S = node_sized v _ c.well_formed.0 in
    (omega (arith, log_length v, S.frames, c.if-node-gt-MOST_BROADCASTS.true), omega arith)

pub returns : goal.returns
returns c = let v = c.args.node in
    let S = node_sized v _ c.well_formed.0 in
    (omega (arith, log_length v, S.frames, c.if-node-gt-MOST_BROADCASTS.false), c.if-node-gt-MOST_BROADCASTS.false)

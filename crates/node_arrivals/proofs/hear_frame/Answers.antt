-- `node_arrivals::hear_frame` meets its contract: the bytes of a frame are as many of its array as its length says.
use Rattle.node.proofs.Sizes.{frame_sized}
use Rattle.node.specs.Node.{written}
use native.Mathlib.Omega.{arith}
use Prim.Native.Nat.{◌≤◌}
use mathlib.Core.Path.{sym}
use lib.ListN.{length}
use lib.Seq.{take_all, length-take-le}
use Rattle.node_arrivals.proofs.hear_frame.Goals as goal

pub returns-then-len-gt-LONGEST_FRAME : goal.returns-then-len-gt-LONGEST_FRAME
unfolding written
returns-then-len-gt-LONGEST_FRAME c =
    let f = c.args.frame in
    rw (take_all f.len f.bytes (omega (arith, frame_sized f _ c.well_formed.1.1.0, c.if-len-gt-LONGEST_FRAME.true)))
    c.hear_burst.ensures

pub slice_bounds-bytes-end : goal.slice_bounds-bytes-end
slice_bounds-bytes-end c = let room : let f = c.args.frame in
    f.len ≤ length f.bytes = omega (arith, frame_sized c.args.frame _ c.well_formed.1.1.0, c.if-len-gt-LONGEST_FRAME.false) in
    room

pub slice_bounds-hear_burst-end-2 : goal.slice_bounds-hear_burst-end-2
slice_bounds-hear_burst-end-2 c = let room : let f = c.args.frame in
    f.len ≤ length f.bytes = omega (arith, frame_sized c.args.frame _ c.well_formed.1.1.0, c.if-len-gt-LONGEST_FRAME.false) in
    sym (length-take-le _ _ room)

pub returns : goal.returns
unfolding written
returns c = c.hear_burst-2.ensures

-- `framing::bytes::put_four` meets its contract: four stores in a row are one replacement of four bytes.
use native.Mathlib.Omega.{arith}
use lib.ListN.{length-set}
use Rattle.framing.proofs.Stores.{four_stored}
use Rattle.framing.proofs.bytes.put_four.Goals as goal

pub bounds-out-at-2 : goal.bounds-out-at-2
bounds-out-at-2 c = simp length-set (omega arith)

pub bounds-out-at-3 : goal.bounds-out-at-3
bounds-out-at-3 c = simp length-set (omega arith)

pub bounds-out-at-4 : goal.bounds-out-at-4
bounds-out-at-4 c = simp length-set (omega arith)

pub returns : goal.returns
returns c = four_stored _ _ _ _ _ _ c.requires

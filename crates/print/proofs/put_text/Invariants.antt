-- `print::put_text` meets its contract. Invariant: the first j bytes are put.
use Prim.Native.Nat.{◌+◌, ◌-◌, ◌≤◌}
use mathlib.Core.Path.{◌≡◌}
use lib.ListN.{length, take}
use Rattle.print.specs.Put.{Put}
use Rattle.print.proofs.put_text.Given as goal

abbrev pub invariant-loop-j : goal.invariant-loop-j
invariant-loop-j l = (l.j ≤ length l.text) × ((length l.out ≡ length l.initial.out) × Put l.initial.out l.at (take l.j l.text) l.out
    (l.at + l.j))

abbrev pub decreases-loop-j : goal.decreases-loop-j
decreases-loop-j l = length l.text - l.j

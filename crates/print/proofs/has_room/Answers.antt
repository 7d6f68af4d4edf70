-- `print::has_room` meets its contract: one test after another.
use native.Mathlib.Omega.{arith}
use Prim.Native.Nat.{◌+◌}
use mathlib.Core.Path.{sym}
use borrow.Author.Tests.{le-leb, lt-leb}
use Rattle.print.proofs.has_room.Goals as goal

pub returns-then-length-room : goal.returns-then-length-room
returns-then-length-room c = sym (lt-leb (c.args.at + c.args.room) c.args.length (omega arith))

pub returns-then-length-room-2 : goal.returns-then-length-room-2
returns-then-length-room-2 c = sym (lt-leb (c.args.at + c.args.room) c.args.length (omega arith))

pub returns : goal.returns
returns c = sym (le-leb (c.args.at + c.args.room) c.args.length (omega arith))

-- `frame::size::frame_size` meets its contract.
use Prim.Native.Nat.{ℕ}
use mathlib.Core.Path.{ap}
use Rattle.frame.proofs.size.frame_size.Goals as goal

pub returns : goal.returns
returns c = ap (λ (s : ℕ). record { length = c.args.length; slots = s }) c.frame_slots.ensures

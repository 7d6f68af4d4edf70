-- `start_frames::begin` meets its contract: both frames are put where there is room for both, and both are short.
use native.Mathlib.Omega.{arith}
use Rattle.start_frames.specs.Frames.Laws.{begin_puts, begin_few}
use Rattle.start_frames.proofs.begin.Goals as goal

pub overflow_add-slots : goal.overflow_add-slots
overflow_add-slots c =
    let a = c.args in
    omega (arith, begin_few a.n a.own a.out.now _ c.put_two-two.ensures.0)

pub returns : goal.returns
returns c =
    let a = c.args in
    begin_puts a.n a.own a.out.now _ _ c.put_two-two.ensures.0 c.put_two-two.ensures.1

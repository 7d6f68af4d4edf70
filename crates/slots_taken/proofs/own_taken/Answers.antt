-- `slots_taken::own_taken` meets its contract, by the state.
use native.Mathlib.Omega.{arith}
use Rattle.slots_taken.specs.Taken.Laws.{own_idle, own_running, own_stopped}
use Rattle.slots_taken.proofs.own_taken.Goals as goal

pub returns-then-state-eq-IDLE : goal.returns-then-state-eq-IDLE
returns-then-state-eq-IDLE c = let a = c.args in own_idle a.n a.state c.if-state-eq-IDLE.true

pub returns-then-state-lt-PRIME : goal.returns-then-state-lt-PRIME
returns-then-state-lt-PRIME c = let a = c.args in own_running a.n a.state c.if-state-eq-IDLE.false c.if-state-lt-PRIME.true

pub returns : goal.returns
returns c =
    let a = c.args in
    omega (arith, c.list_slots.ensures.0, own_stopped a.n a.state c.if-state-eq-IDLE.false c.if-state-lt-PRIME.false)

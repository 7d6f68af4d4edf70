-- `header::id_steps` meets its contract. Invariant: the lines of the bases 1 to b are read.
use native.Mathlib.Omega.{arith}
use Prim.Native.Nat.{◌+◌, ◌-◌}
use mathlib.Core.Path.{ap, ◌∙◌}
use Prim.Native.Nat.{ℕ}
use Rattle.net.specs.declared.StoredNet.{StoredNet}
use Rattle.net.specs.Header.{begun_net}
use Rattle.schedule.specs.Walk.{id_steps}
use Rattle.stored_walk.specs.State.{replaying}
use Rattle.stored_walk.specs.State.Laws.{ids_none, ids_more, id_near}
use Rattle.header.proofs.id_steps.Goals as goal

pub loop-b-init : goal.loop-b-init
loop-b-init c = (omega arith, (omega (arith, c.requires), ids_none _ _))

pub loop-b-preserved : goal.loop-b-preserved
unfolding begun_net
loop-b-preserved c = (
  omega arith,
  (
    omega (
      arith,
      ap (λ (p : StoredNet). p.line) c.id_step-header.ensures,
      id_near c.args.s.now
          (c.loop-b.b + 1) (2 + c.loop-b.b) (begun_net c.loop-b.header)
          c.loop-b.invariant.1.0,
    ),
    ids_more _ _ _ c.loop-b.invariant.1.1 c.id_step-header.ensures,
  ),
)

pub returns : goal.returns
returns c = c.loop-b.invariant.1.1 ∙ ap (λ (k : ℕ). id_steps replaying c.args.s.now
    k (begun_net c.args.first)) (omega (arith, c.loop-b.invariant.0, c.loop-b-test.false))

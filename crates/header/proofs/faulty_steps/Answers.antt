-- `header::faulty_steps` meets its contract. Invariant: k lines are read, or those that name a faulty link.
use native.Mathlib.Omega.{arith}
use Prim.Native.Nat.{ℕ, ◌+◌, ◌-◌}
use mathlib.Core.Path.{refl, ap, ◌∙◌}
use Rattle.net.specs.declared.StoredNet.{StoredNet}
use Rattle.net.specs.Header.{begun_net}
use Rattle.schedule.specs.Walk.{faulty_step, repeat}
use Rattle.stored_walk.specs.State.{most_named_line, replaying}
use Rattle.schedule.proofs.Walk.Laws.{repeat_none, repeat_more}
use Rattle.stored_walk.specs.State.Laws.{faulty_near}
use Rattle.header.proofs.faulty_steps.Goals as goal

pub loop-k-init : goal.loop-k-init
loop-k-init c = (omega arith, (refl, (omega (arith, c.requires), repeat_none _ _)))

pub faulty_step-header-requires : goal.faulty_step-header-requires
faulty_step-header-requires c = omega (arith, c.loop-k.invariant)

pub loop-k-preserved : goal.loop-k-preserved
unfolding begun_net
loop-k-preserved c = let I = c.loop-k.invariant in (
  omega arith,
  (
    I.1.0,
    (
      omega (
        arith,
        ap (λ (p : StoredNet). p.line) c.faulty_step-header.ensures,
        faulty_near c.args.s.now (most_named_line + c.loop-k.k)
            (begun_net c.loop-k.header) I.1.1.0,
      ),
      repeat_more _ _ _ I.1.1.1 c.faulty_step-header.ensures,
    ),
  ),
)

pub returns : goal.returns
returns c = c.loop-k.invariant.1.1.1
    ∙ ap (λ (k : ℕ). repeat k (faulty_step replaying c.args.s.now)
    (begun_net c.args.first))
    (omega (arith, c.loop-k.invariant.0, c.loop-k.invariant.1.0, c.loop-k-test.false))

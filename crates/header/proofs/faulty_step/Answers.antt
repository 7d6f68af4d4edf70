-- `header::faulty_step` meets its contract: any other line is left for the events.
-- the line has its form, so the two are bases of the net
use native.Mathlib.Omega.{arith}
use mathlib.Core.Path.{refl, sym, ◌∙◌, subst}
use Rattle.lines.specs.Lines.Laws.{net_base_range}
use Rattle.lines.specs.Lines.Found.{FaultyFound, faulty_found}
use Rattle.lines.specs.declared.bases.Two.TheVariants.{Both}
use Rattle.net.specs.Header.{begun_net}
use Rattle.schedule.specs.Walk.{faulty_step}
use Rattle.stored_walk.specs.State.Laws.{unless_stopped, unless_onward}
use Rattle.header.proofs.faulty_step.Goals as goal

found : (c : goal.In-Both) → FaultyFound c.args.header.n
    c.args.header.at
    (Both c.in-Both.a c.in-Both.b c.in-Both.next)
found c = subst (FaultyFound c.args.header.n
    c.args.header.at)
    (sym c.faulty_line.ensures ∙ c.in-Both.is)
    (faulty_found c.args.header.n
    c.args.s.now
    c.args.header.at)

pub returns-then-header-ne0 : goal.returns-then-header-ne0
unfolding faulty_step begun_net
returns-then-header-ne0 c = unless_stopped _ _ c.if-header-ne0.true

pub returns-in_default : goal.returns-in_default
unfolding faulty_step begun_net
returns-in_default c = unless_onward _
    c.if-header-ne0.false (rw (sym c.faulty_line.ensures ∙ c.in_default.is) refl)

pub overflow_cast-a : goal.overflow_cast-a
overflow_cast-a c = omega
    (arith, (net_base_range c.args.header.n _ (found (c)).0).1)

pub overflow_cast-b : goal.overflow_cast-b
overflow_cast-b c = omega (
  arith,
  (net_base_range c.args.header.n _ (found (c)).1.0).1,
)

pub mark_faulty-requires : goal.mark_faulty-requires
mark_faulty-requires c = c.requires

pub returns : goal.returns
unfolding faulty_step begun_net
returns c = unless_onward _ c.if-header-ne0.false
    (rw (sym c.faulty_line.ensures ∙ c.in-Both.is) c.mark_faulty.ensures)

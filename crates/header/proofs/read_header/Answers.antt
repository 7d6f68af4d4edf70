-- `header::read_header` meets its contract: one step after another; no more lines than bytes count of their numbers.
use native.Mathlib.Omega.{arith}
use Prim.Native.Nat.{suc, ◌+◌, ◌≤◌}
use mathlib.Core.Path.{ap, sym, ◌∙◌, subst}
use Rattle.net.specs.declared.StoredNet.{StoredNet}
use Rattle.net.specs.Header.{begun_net}
use Rattle.schedule.specs.Walk.{id_steps, faulty_step, repeat, header_walk}
use Rattle.stored_walk.specs.State.{most_header_line, replaying}
use Rattle.stored_walk.specs.State.Laws.{net_near, ids_near, faulties_near}
use Rattle.header.proofs.read_header.Goals as goal

pub id_steps-named-requires : goal.id_steps-named-requires
unfolding begun_net
id_steps-named-requires c = let sized_line : c.net_step-sized.result.line ≤ 2 =
    subst (λ (p : StoredNet). p.line ≤ 2) (sym c.net_step-sized.ensures) (net_near c.args.s.now) in
    sized_line

pub faulty_steps-requires : goal.faulty_steps-requires
unfolding begun_net
faulty_steps-requires c = let sized_line : c.net_step-sized.result.line ≤ 2 =
    subst (λ (p : StoredNet). p.line ≤ 2) (sym c.net_step-sized.ensures) (net_near c.args.s.now) in
    let named_line : c.id_steps-named.result.line ≤ 2 + c.net_step-sized.result.n = let sized = c.net_step-sized.result in
    subst (λ (p : StoredNet). p.line ≤ 2 + sized.n) (sym c.id_steps-named.ensures) (ids_near c.args.s.now sized.n 2
    (begun_net sized) sized_line) in
    omega (arith, named_line)

pub returns : goal.returns
unfolding header_walk begun_net
returns c = let sized_line : c.net_step-sized.result.line ≤ 2 =
    subst (λ (p : StoredNet). p.line ≤ 2) (sym c.net_step-sized.ensures) (net_near c.args.s.now) in
    let named_line : c.id_steps-named.result.line ≤ 2 + c.net_step-sized.result.n = let sized = c.net_step-sized.result in
    subst (λ (p : StoredNet). p.line ≤ 2 + sized.n) (sym c.id_steps-named.ensures) (ids_near c.args.s.now sized.n 2
    (begun_net sized) sized_line) in
    let s = c.args.s.now in
    let faulties : StoredNet → StoredNet = λ p. repeat (suc p.t) (faulty_step replaying s) p in
    let ids : StoredNet → StoredNet = λ p. id_steps replaying s p.n p in record {
      result_value = c.faulty_steps.ensures ∙ ap faulties (c.id_steps-named.ensures ∙ ap ids c.net_step-sized.ensures);
      line_le_most_header_line = subst (λ (p : StoredNet). p.line ≤ most_header_line) (sym c.faulty_steps.ensures)
          (omega (
            arith,
            faulties_near s (suc c.id_steps-named.result.t) (2 + c.net_step-sized.result.n)
                (begun_net c.id_steps-named.result) named_line,
          ));
    }

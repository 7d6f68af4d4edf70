-- `deciding::decide` meets its contract, by the kind: kinds 3 and 4, kinds 1 and 2, and any other.
use mathlib.Core.Path.{refl, ap, ◌∙◌}
use native.Mathlib.Omega.{arith}
use Rattle.deciding.specs.Deciding.{prime_decision}
use Rattle.deciding.specs.Deciding.Laws.{runs_kept, one_decides, vector_decides, none_decides}
use Rattle.deciding.proofs.decide.Goals as goal

pub returns-then-kind-gt-VERIFY_FINAL : goal.returns-then-kind-gt-VERIFY_FINAL
returns-then-kind-gt-VERIFY_FINAL c = let a = c.args in
    c.runs_on.ensures ∙ runs_kept a.base _ _ _ refl
    ∙ none_decides a.base a.kind a.ids (λ e. omega arith) (λ e. omega arith) (λ e. omega arith) (λ e. omega arith)

pub returns-then-kind-gt-VERIFY : goal.returns-then-kind-gt-VERIFY
returns-then-kind-gt-VERIFY c = let a = c.args in
    c.vector_decision.ensures ∙ vector_decides a.base a.kind a.ids c.if-kind-gt-VERIFY.true c.if-kind-gt-VERIFY_FINAL.false

pub returns-then-kind-eq-NO_KIND : goal.returns-then-kind-eq-NO_KIND
returns-then-kind-eq-NO_KIND c = let a = c.args in
    c.runs_on-then-kind-eq-NO_KIND.ensures ∙ runs_kept a.base _ _ _ refl
    ∙ none_decides a.base a.kind a.ids (λ e. omega arith) (λ e. omega arith) (λ e. omega arith) (λ e. omega arith)

pub returns : goal.returns
returns c = let a = c.args in
    c.prime_decision.ensures ∙ ap (prime_decision a.base) c.echo_of.ensures
    ∙ one_decides a.base a.kind a.ids c.if-kind-eq-NO_KIND.false c.if-kind-gt-VERIFY.false

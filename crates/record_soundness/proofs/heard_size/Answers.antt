-- `record_soundness::heard_size` meets its contract, by whether the base is idle.
use Rattle.lists.specs.Choice.Laws.{chosen_yes, chosen_no}
use borrow.Author.Tests.{eq-eqb, ne_eqb}
use mathlib.Core.Path.{refl}
use Rattle.record_soundness.proofs.heard_size.Goals as goal

pub returns-then-state-eq-IDLE : goal.returns-then-state-eq-IDLE
returns-then-state-eq-IDLE c = chosen_yes _ (eq-eqb _ 0 c.if-state-eq-IDLE.true) refl

pub returns : goal.returns
returns c = chosen_no _ (ne_eqb _ 0 c.if-state-eq-IDLE.false) refl

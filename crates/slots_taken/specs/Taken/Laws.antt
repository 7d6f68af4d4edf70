-- Both sums by their parts: what the code works out is what the record tells.
use Rattle.std.specs.Prelude.{ℕ, ◌+◌, ◌-◌, ◌≤◌, ◌<◌, ◌≡◌, ◌≢◌, length}
use Rattle.std.proofs.Math.Path.{refl}
use native.Mathlib.Omega.{arith}
use Rattle.std.proofs.Common.{eq-eqb, ne_eqb, le-leb}
use Rattle.std.proofs.lemmas.Bool.{lt-leb}
use Rattle.limits.specs.Limits.{list_slots}
use Rattle.lists.specs.Choice.Laws.{choose_yes, choose_no}
use Rattle.protocol.specs.declared.Base.{Base}
use Rattle.protocol.specs.Record.{certified}
use Rattle.protocol.specs.Sound.{idle, stopped}
use Rattle.protocol.specs.Airtime.{own_taken, relayed_taken}
use Rattle.slots_taken.specs.Taken.{own_by, vote_by}

module _ (n state : ℕ) where
  pub own_idle : state ≡ 0 → 0 ≡ own_by n state
  unfolding own_by
  own_idle e = omega (arith, choose_yes {A = ℕ} 0 2 (eq-eqb state 0 e), choose_no (list_slots n) 0 (lt-leb 2 state (omega arith)))

  pub own_running : state ≢ 0 → state < 2 → 2 ≡ own_by n state
  unfolding own_by
  own_running e h = omega (arith, choose_no {A = ℕ} 0 2 (ne_eqb state 0 e), choose_no (list_slots n) 0 (lt-leb 2 state h))

  pub own_stopped : state ≢ 0 → 2 ≤ state → 2 + list_slots n ≡ own_by n state
  unfolding own_by
  own_stopped e h = omega (arith, choose_no {A = ℕ} 0 2 (ne_eqb state 0 e), choose_yes (list_slots n) 0 (le-leb 2 state h))

module _ (b : Base) where
  pub own_parts : own_by b.n b.state ≡ own_taken b
  unfolding own_by own_taken idle stopped
  own_parts = refl

  pub some_certified : 1 ≤ length (certified b)
  unfolding certified
  some_certified = omega arith

  pub relayed_parts : length (certified b) - 1 + vote_by b.n b.sent ≡ relayed_taken b
  unfolding certified vote_by relayed_taken
  relayed_parts = omega arith

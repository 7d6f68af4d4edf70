-- A step of the net keeps the invariant, so it holds in every state that the net reaches.
use Rattle.std.specs.Prelude.{ℕ, List}
use Rattle.protocol.specs.Agreement.Invariant.{Premises, State, Invariant}
use Rattle.protocol.proofs.Agreement.NetSteps.{NetStep}
pub mod Deliveries
pub mod Finals
pub mod Logs

pub kept : (n t : ℕ) (faulty : ℕ → ℕ → ℕ) (id : ℕ → ℕ) (truth : List ℕ) → Premises n t faulty id truth → (N M : State)
    → Invariant n t faulty id truth N → NetStep n t faulty id N M
    → Invariant n t faulty id truth M
kept n t faulty id truth P N M I S = record {
  sound = Logs.sound_kept n t faulty id truth N M I S;
  quiescent = Logs.quiescent_kept n t faulty id truth N M I S;
  backed = Logs.backed_kept n t faulty id truth N M I S;
  start_said = Logs.start_said_kept n t faulty id truth N M I S;
  names_said = Logs.names_said_kept n t faulty id truth N M I S;
  vote_said = Logs.vote_said_kept n t faulty id truth N M I S;
  vote_one = Logs.vote_one_kept n t faulty id truth N M I S;
  stop_said = Logs.stop_said_kept n t faulty id truth N M I S;
  heard = Logs.heard_kept n t faulty id truth N M I S;
  delivered = Deliveries.delivered_kept n t faulty id truth N M I S;
  final_true = Finals.final_true_kept n t faulty id truth P N M I S;
  prime_knows = Finals.prime_knows_kept n t faulty id truth P N M I S;
  prime_first = Finals.prime_first_kept n t faulty id truth P N M I S;
}

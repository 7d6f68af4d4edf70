-- What becomes final is a roster: n identifiers, above zero and strictly ascending, as kinds 3 and 4 demand. A prime sorts n different
-- certified identifiers; a secondary takes the list of a valid message.
use Rattle.std.specs.Prelude.{ℕ, ◌≤◌, ◌≡◌, true, List, length}
use Rattle.std.proofs.Common.{ap, ◌∙◌}
use Rattle.limits.specs.Limits.{most_bases}
use Rattle.lists.specs.Lists.{nonzero, ascending, distinct, pad_to}
use Rattle.lists.specs.Lists.Laws.{pad_front}
use Rattle.lists.specs.Lists.Zeros.{pad_behind}
use Rattle.lists.specs.Lists.Sorted.{length_sort, nonzero_sort, ascending_sort}
use Rattle.frame.specs.Message.{Message, ids_of, Valid}
use Rattle.protocol.specs.declared.Base.{Base}
use Rattle.protocol.specs.Record.{certified}
use Rattle.protocol.proofs.Record.Announced.{nonzero_certified}
use Rattle.protocol.proofs.Sound.Laws.{ListParts}
use Rattle.protocol.proofs.Steps.Cases.{HoldsList, Decides, decides_prime, decides_secondary}
use Rattle.protocol.proofs.Steps.Checks.{prime_parts}

pub record Roster (n : ℕ) (v : List ℕ) : Type 0 where
  pub count : length v ≡ n
  pub above_zero : nonzero v ≡ true
  pub ascends : ascending v ≡ true

pub valid_roster : {n : ℕ} {m : Message} → HoldsList m → Valid n m → Roster n (ids_of m)
valid_roster {n} H w = record { count = w.count ∙ H n; above_zero = w.above_zero; ascends = w.ascends }

pub decides_count : {c : Base} {m : Message} {state : ℕ} {v : List ℕ} → Valid c.n m → Decides c m state v → length v ≡ c.n
decides_count {c} w (decides_prime H e) = length_sort (certified c) ∙ (prime_parts c e).count
decides_count {c} w (decides_secondary H e) = w.count ∙ H c.n

pub decides_roster : {c : Base} {m : Message} {state : ℕ} {v : List ℕ} → 1 ≤ c.own → distinct (certified c) ≡ true → Valid c.n m
    → Decides c m state v → Roster c.n v
decides_roster {c} some apart w (decides_prime H e) = record {
  count = decides_count w (decides_prime H e);
  above_zero = nonzero_sort (certified c) ∙ nonzero_certified c some;
  ascends = ascending_sort (certified c) apart;
}
decides_roster some apart w (decides_secondary H e) = valid_roster H w

-- in an array, zeros behind
pub roster_padded : {n : ℕ} {v : List ℕ} → Roster n v → ListParts n (pad_to most_bases v)
roster_padded {n} {v} R = record {
  above_zero = ap nonzero (pad_front most_bases v n R.count) ∙ R.above_zero;
  ascends = ap ascending (pad_front most_bases v n R.count) ∙ R.ascends;
  behind = pad_behind most_bases v n R.count;
}

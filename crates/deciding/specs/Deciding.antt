-- What a base does once it has accepted a message, by the message's kind and its identifiers in their array. Each test is that of
-- the message's step (protocol/specs/Steps).
use Rattle.std.specs.Prelude.{ℕ, true, false, List, take}
use Rattle.limits.specs.Limits.{most_bases}
use Rattle.lists.specs.Choice.{choose}
use Rattle.lists.specs.Lists.{sort, pad_to}
use Rattle.protocol.specs.declared.Base.{Base}
use Rattle.protocol.specs.Record.{certified}
use Rattle.protocol.specs.Steps.{prime_holds, secondary_holds, votes}
use Rattle.change.specs.Heard.{by_kind}
use Rattle.deciding.specs.declared.Decision.{Decision}
pub mod Laws

unfoldable pub runs_on : Base → ℕ → ℕ → Decision
runs_on b first sent = record { first = first; sent = sent; stops = false; state = b.state; final_list = b.final_list }

unfoldable pub stops_with : ℕ → ℕ → ℕ → List ℕ → Decision
stops_with first sent state list = record { first = first; sent = sent; stops = true; state = state; final_list = list }

unfoldable pub prime_decision : Base → ℕ → Decision
prime_decision b first =
    choose (prime_holds b) (stops_with first b.sent 2 (pad_to most_bases (sort (certified b)))) (runs_on b first b.sent)

unfoldable pub secondary_decision : Base → ℕ → ℕ → List ℕ → Decision
secondary_decision b first sent v = choose (secondary_holds b (take b.n v)) (stops_with first sent 3 v) (runs_on b first sent)

unfoldable pub vote_decision : Base → List ℕ → Decision
vote_decision b v = choose (votes b (take b.n v)) (secondary_decision b 4 1 v) (secondary_decision b 0 b.sent v)

unfoldable pub decision_of : Base → ℕ → List ℕ → Decision
decision_of b kind ids =
    by_kind kind (prime_decision b 2) (prime_decision b 0) (vote_decision b ids) (secondary_decision b 0 b.sent ids) (runs_on b 0 b.sent)

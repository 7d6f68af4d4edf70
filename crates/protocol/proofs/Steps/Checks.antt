-- What the prime check, the secondary check and the vote say, one by one.
use Rattle.std.specs.Prelude.{ℕ, ◌+◌, ◌*◌, ◌≤◌, ◌≡◌, true, List, length}
use Rattle.std.proofs.Common.{leb-true, eqb-true}
use Rattle.lists.specs.Choice.Laws.{and_true}
use Rattle.protocol.specs.declared.Base.{Base}
use Rattle.protocol.specs.Record.{certified, tally_sum, suspects, list_tally, correct_count}
use Rattle.protocol.specs.Steps.{prime_holds, secondary_holds, votes}

pub record PrimeParts (b : Base) : Type 0 where
  pub count : length (certified b) ≡ b.n
  pub sum : b.n * b.n ≤ tally_sum b + 2 * b.t
  pub few : suspects b ≤ b.t

pub prime_parts : (b : Base) → prime_holds b ≡ true → PrimeParts b
unfolding prime_holds
prime_parts b e =
    let p = and_true _ _ e in
    let q = and_true _ _ p.1 in
    record {
      count = eqb-true (length (certified b)) b.n p.0;
      sum = leb-true (b.n * b.n) (tally_sum b + 2 * b.t) q.0;
      few = leb-true (suspects b) b.t q.1;
    }

pub record SecondaryParts (b : Base) (v : List ℕ) : Type 0 where
  pub tally : b.t + 1 ≤ list_tally b v
  pub correct : 2 ≤ correct_count b v

pub secondary_parts : (b : Base) (v : List ℕ) → secondary_holds b v ≡ true → SecondaryParts b v
unfolding secondary_holds
secondary_parts b v e =
    let p = and_true _ _ e in
    record { tally = leb-true (b.t + 1) (list_tally b v) p.0; correct = leb-true 2 (correct_count b v) p.1 }

pub record VoteParts (b : Base) (v : List ℕ) : Type 0 where
  pub unsent : b.sent ≡ 0
  pub correct : 2 ≤ correct_count b v

pub vote_parts : (b : Base) (v : List ℕ) → votes b v ≡ true → VoteParts b v
unfolding votes
vote_parts b v e = let p = and_true _ _ e in record { unsent = eqb-true b.sent 0 p.0; correct = leb-true 2 (correct_count b v) p.1 }

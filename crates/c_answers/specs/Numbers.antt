-- What the calls answer, as numbers. Document 01: "Its answer is accepted or discarded, with each frame's length"; "Each returns its
-- number". Document 02, request 2: "Start and arrival also answer with two sums".
use Rattle.std.specs.Prelude.{ℕ}
use Rattle.protocol.specs.declared.Outcome.{Outcome}
use Rattle.protocol.specs.declared.Outcome.TheVariants.{Accepted, Discarded, Refused}
use Rattle.protocol.specs.declared.Leader.{Leader}
use Rattle.protocol.specs.declared.Leader.TheVariants as leads
use Rattle.writer.specs.declared.Written.{Written}
use Rattle.writer.specs.declared.Written.TheVariants as writes
use Rattle.c_answers.specs.declared.CallAnswer.{CallAnswer}
use Rattle.c_answers.specs.declared.LeaderAnswer.{LeaderAnswer}
use Rattle.c_answers.specs.declared.WriteAnswer.{WriteAnswer}
pub mod Laws

-- of a call that was not turned down: accepted is 1, discarded is 2
abbrev pub in_numbers : ℕ → ℕ → ℕ → ℕ → ℕ → ℕ → CallAnswer
in_numbers outcome first second third own relayed =
    record { outcome = outcome; refusal = 0; first = first; second = second; third = third; own = own; relayed = relayed }

-- turned down is 0, with no frames and no slots
unfoldable pub outcome_numbers : Outcome → CallAnswer
outcome_numbers (Accepted a b c own relayed) = in_numbers 1 a b c own relayed
outcome_numbers (Discarded a b c own relayed) = in_numbers 2 a b c own relayed
outcome_numbers (Refused r) = record { outcome = 0; refusal = r; first = 0; second = 0; third = 0; own = 0; relayed = 0 }

-- a leader named is 1, not stopped is 2, turned down is 0
unfoldable pub leader_numbers : Leader → LeaderAnswer
leader_numbers (leads.Is g) = record { outcome = 1; refusal = 0; leader = g }
leader_numbers leads.NotStopped = record { outcome = 2; refusal = 0; leader = 0 }
leader_numbers (leads.Refused r) = record { outcome = 0; refusal = r; leader = 0 }

unfoldable pub written_numbers : Written → WriteAnswer
written_numbers (writes.Frame size) = record { refusal = 0; length = size.length; slots = size.slots }
written_numbers (writes.Refused r) = record { refusal = r; length = 0; slots = 0 }

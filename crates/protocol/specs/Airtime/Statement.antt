-- A base's life in slots (document 02, request 2): "Added up over a base's life, from idle, both together equal the slots of its
-- broadcasts, at most n + 1 plus twice (n + 1) / 2 rounded up". The life is any list of starts and arrivals at one base, with any links,
-- bursts and output lengths, calls that are turned down among them.
use Rattle.std.specs.Prelude.{ℕ, ◌+◌, ◌*◌, ◌-◌, ◌≤◌, ◌≡◌, true, List, [], ◌∷◌}
use Rattle.limits.specs.Limits.{list_slots}
use Rattle.lists.specs.Lists.{sum_over}
use Rattle.frame.specs.Slots.{slots_of}
use Rattle.protocol.specs.declared.Base.{Base}
use Rattle.protocol.specs.declared.Outcome.{Outcome}
use Rattle.protocol.specs.declared.Outcome.TheVariants.{Accepted, Discarded, Refused}
use Rattle.protocol.specs.Airtime.{own_taken, relayed_taken}
use Rattle.protocol.specs.Record.Memory.{Sized}
use Rattle.protocol.specs.Sound.{idle, record_refusal}
use Rattle.protocol.specs.Steps.{outcome_of}
use Rattle.protocol.specs.Steps.Calls.{Call, called, AllBytes, after_calls, life}

-- the sums that a call answers with; one that is turned down has none
unfoldable pub own_of : Outcome → ℕ
own_of (Accepted a b c own relayed) = own
own_of (Discarded a b c own relayed) = own
own_of (Refused r) = 0

unfoldable pub relayed_of : Outcome → ℕ
relayed_of (Accepted a b c own relayed) = relayed
relayed_of (Discarded a b c own relayed) = relayed
relayed_of (Refused r) = 0

-- of all calls together, each on the record that the one before left
unfoldable pub answered : (Outcome → ℕ) → Base → List Call → ℕ
answered sum b [] = 0
answered sum b (c ∷ calls) = sum (outcome_of (called b c)) + answered sum (called b c).base calls

pub record LifeSlots (b : Base) (calls : List Call) : Type 0 where
  pub both : answered own_of b calls + answered relayed_of b calls ≡ sum_over (life b calls) slots_of
  pub most : sum_over (life b calls) slots_of ≤ b.n + 1 + 2 * list_slots b.n
  pub own_most : answered own_of b calls ≤ 2 + list_slots b.n
  pub relayed_most : answered relayed_of b calls ≤ b.n - 1 + list_slots b.n

-- It is asked from an idle record and holds from any. The premises are facts of memory: an array has its length, a burst is made of bytes.
abbrev pub Airtime : Type 0
Airtime = (b : Base) (calls : List Call) → Sized b → AllBytes calls → LifeSlots b calls

-- From an idle record that is not turned down, the record that the calls leave tells both sums.
pub record TaleOf (b : Base) (calls : List Call) : Type 0 where
  pub own : answered own_of b calls ≡ own_taken (after_calls b calls)
  pub relayed : answered relayed_of b calls ≡ relayed_taken (after_calls b calls)

abbrev pub RecordTells : Type 0
RecordTells =
    (b : Base) (calls : List Call) → Sized b → AllBytes calls → record_refusal b ≡ 0 → idle b ≡ true → TaleOf b calls

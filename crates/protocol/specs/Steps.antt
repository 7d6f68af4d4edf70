-- "The steps" (document 01): what a start and an arrival do to a base, what they answer and what they broadcast.
use Rattle.std.specs.Prelude.{ℕ, ◌+◌, ◌*◌, ◌-◌, Bool, not, List, [], ◌∷◌, ◌++◌, eqb, ltb, leb, length, get_or, set}
use Rattle.limits.specs.Limits.{most_bases, output_room}
use Rattle.lists.specs.Choice.{choose, and, or, first}
use Rattle.lists.specs.Lists.{member, sort, pad_to}
use Rattle.frame.specs.Message.{Message, announce, verify, correct_final, verify_final}
use Rattle.frame.specs.Encoding.{encode, over}
use Rattle.frame.specs.Reading.{burst_refusal, message_of}
use Rattle.protocol.specs.declared.Link.{Link}
use Rattle.protocol.specs.declared.Base.{Base}
use Rattle.protocol.specs.declared.Outcome.{Outcome}
use Rattle.protocol.specs.declared.Outcome.TheVariants.{Accepted, Discarded, Refused}
use Rattle.protocol.specs.declared.Leader.{Leader}
use Rattle.protocol.specs.declared.Leader.TheVariants as leads
use Rattle.protocol.specs.Airtime.{own_slots, relayed_slots}
use Rattle.protocol.specs.Links.{announces, holds_verify, full}
use Rattle.protocol.specs.Record.{link_at, certified, tally_sum, suspects, list_tally, correct_count, final_list}
use Rattle.protocol.specs.Sound.{idle, stopped, record_refusal}
pub mod Cases
pub mod Calls

-- "Its answer is accepted or discarded", or the call is turned down by a number
pub data Answer : Type 0 where
  accepted discarded : Answer
  refused : ℕ → Answer

-- what a call does: its answer, the base after it, and the messages that it broadcasts, in order
pub record Done : Type 0 where
  pub answer : Answer
  pub base : Base
  pub says : List Message

unfoldable pub refuses : Base → ℕ → Done
refuses b r = record { answer = refused r; base = b; says = [] }

unfoldable pub discards : Base → Done
discards b = record { answer = discarded; base = b; says = [] }

unfoldable pub accepts : Base → List Message → Done
accepts b says = record { answer = accepted; base = b; says = says }

-- ---- changes of a record
unfoldable pub with_link : Base → ℕ → Link → Base
with_link b i l = record {
  n = b.n;
  t = b.t;
  state = b.state;
  sent = b.sent;
  own = b.own;
  final_list = b.final_list;
  links = set b.links i l;
}

unfoldable pub with_sent : Base → Base
with_sent b = record { n = b.n; t = b.t; state = b.state; sent = 1; own = b.own; final_list = b.final_list; links = b.links }

unfoldable pub with_state : Base → ℕ → Base
with_state b state =
    record { n = b.n; t = b.t; state = state; sent = b.sent; own = b.own; final_list = b.final_list; links = b.links }

unfoldable pub with_final : Base → List ℕ → Base
with_final b v =
    record { n = b.n; t = b.t; state = b.state; sent = b.sent; own = b.own; final_list = pad_to most_bases v; links = b.links }

unfoldable pub with_announce : Link → ℕ → Link
with_announce l g = record { announce = g; verifies = l.verifies; list = l.list; verify_count = l.verify_count; held = l.held }

unfoldable pub with_verify : Link → ℕ → Link
with_verify l g = record {
  announce = l.announce;
  verifies = set l.verifies l.verify_count g;
  list = l.list;
  verify_count = l.verify_count + 1;
  held = l.held;
}

unfoldable pub with_vector : Link → ℕ → List ℕ → Link
with_vector l kind v =
    record { announce = l.announce; verifies = l.verifies; list = pad_to most_bases v; verify_count = l.verify_count; held = kind }

-- ---- the checks
-- "n identifiers are certified; their tallies sum to at least n² − 2t; at most t pairs are suspect." The second is put as n² ≤ sum + 2t.
unfoldable pub prime_holds : Base → Bool
prime_holds b = and (eqb (length (certified b)) b.n) (and (leb (b.n * b.n) (tally_sum b + 2 * b.t)) (leb (suspects b) b.t))

-- "The tally of V is at least t + 1 and two links hold Correct-Final V."
unfoldable pub secondary_holds : Base → List ℕ → Bool
secondary_holds b v = and (leb (b.t + 1) (list_tally b v)) (leb 2 (correct_count b v))

-- "Then V is final, Correct-Final V is broadcast", after what was broadcast before
unfoldable pub stops : Base → ℕ → List ℕ → List Message → Done
stops b state v before = accepts (with_state (with_final b v) state) (before ++ (correct_final v ∷ []))

-- "Then the final list is the certified ones sorted, Correct-Final is broadcast, state 2."
unfoldable pub prime_check : Base → List Message → Done
prime_check b before = choose (prime_holds b) (stops b 2 (sort (certified b)) before) (accepts b before)

-- "Then V is final, Correct-Final V is broadcast, state 3."
unfoldable pub secondary_check : Base → List ℕ → List Message → Done
secondary_check b v before = choose (secondary_holds b v) (stops b 3 v before) (accepts b before)

-- ---- an arrival at a running base, on the link at place i
-- "Announce g: discarded if that link has an Announce, if g is certified, or if the
-- link's list is full. Else accepted; Verify g is broadcast; then the prime check."
unfoldable pub on_announce : Base → ℕ → ℕ → Done
on_announce b i g =
    choose (or (announces (link_at b i)) (or (member g (certified b)) (full b.n (link_at b i)))) (discards b)
    (prime_check (with_link b i (with_announce (link_at b i) g)) (verify g ∷ []))

-- "Verify g: discarded if that link holds Verify g or is full. Else accepted, then the prime check."
unfoldable pub on_verify : Base → ℕ → ℕ → Done
on_verify b i g =
    choose (or (holds_verify (link_at b i) g) (full b.n (link_at b i))) (discards b)
    (prime_check (with_link b i (with_verify (link_at b i) g)) [])

-- "If no Verify-Final was ever sent and two or more links now hold Correct-Final V, Verify-Final V is broadcast."
unfoldable pub votes : Base → List ℕ → Bool
votes b v = and (eqb b.sent 0) (leb 2 (correct_count b v))

unfoldable pub vote : Base → List ℕ → Done
vote b v = choose (votes b v) (accepts (with_sent b) (verify_final v ∷ [])) (accepts b [])

-- "Correct-Final V: discarded if the link holds any Correct-Final. Else it replaces what
-- the link holds. [the vote] Then the secondary check on V."
unfoldable pub on_correct_final : Base → ℕ → List ℕ → Done
on_correct_final b i v =
    choose (eqb (link_at b i).held 3) (discards b)
    (let d = vote (with_link b i (with_vector (link_at b i) 3 v)) v in secondary_check d.base v d.says)

-- "Verify-Final V: discarded if the link holds any vector message. Else held, then the secondary check on V."
unfoldable pub on_verify_final : Base → ℕ → List ℕ → Done
on_verify_final b i v =
    choose (not (eqb (link_at b i).held 0)) (discards b)
    (secondary_check (with_link b i (with_vector (link_at b i) 4 v)) v [])

unfoldable pub on_message : Base → ℕ → Message → Done
on_message b i (announce g) = on_announce b i g
on_message b i (verify g) = on_verify b i g
on_message b i (correct_final v) = on_correct_final b i v
on_message b i (verify_final v) = on_verify_final b i v

-- ---- start and arrival
-- "An idle base broadcasts Announce and Verify of its own identifier, in that order, and runs."
unfoldable pub begins : Base → Done
begins b = accepts (with_state b 1) (announce b.own ∷ (verify b.own ∷ []))

-- "At any other state a start is discarded."
unfoldable pub start_step : Base → Done
start_step b = choose (idle b) (begins b) (discards b)

-- one step, and then another on the base that it left: both broadcast, the second answers
unfoldable pub and_then : Done → (Base → Done) → Done
and_then d f = let e = f d.base in record { answer = e.answer; base = e.base; says = d.says ++ e.says }

-- "An idle base starts first. A stopped base discards. Then by kind"
unfoldable pub arrival_step : Base → ℕ → Message → Done
arrival_step b i m =
    choose (stopped b) (discards b)
    (choose (idle b) (and_then (begins b) (λ c. on_message c i m))
    (on_message b i m))

-- ---- the calls, with the numbers by which they are turned down, in checking order
-- 5. The link number is not 1 to n − 1.
unfoldable pub link_refusal : ℕ → ℕ → ℕ
link_refusal n link = choose (or (ltb link 1) (ltb (n - 1) link)) 5 0

-- 6. The output is shorter than 136 bytes.
unfoldable pub output_refusal : ℕ → ℕ
output_refusal room = choose (ltb room output_room) 6 0

-- a call that is turned down changes nothing
unfoldable pub unless : ℕ → Base → Done → Done
unless r b d = choose (eqb r 0) d (refuses b r)

-- with an output of room bytes
unfoldable pub start : Base → ℕ → Done
start b room = unless (first (record_refusal b) (output_refusal room)) b (start_step b)

unfoldable pub arrival_refusal : Base → ℕ → List ℕ → ℕ → ℕ
arrival_refusal b link burst room =
    first (record_refusal b) (first (link_refusal b.n link) (first (output_refusal room) (burst_refusal b.n burst)))

unfoldable pub arrival : Base → ℕ → List ℕ → ℕ → Done
arrival b link burst room = unless (arrival_refusal b link burst room) b (arrival_step b (link - 1) (message_of burst))

-- ---- what a call answers and writes
-- "one after another in the output"
unfoldable pub encode_all : List Message → List ℕ
encode_all [] = []
encode_all (m ∷ ms) = encode m ++ encode_all ms

unfoldable pub lengths : List Message → List ℕ
lengths [] = []
lengths (m ∷ ms) = length (encode m) ∷ lengths ms

-- "with each frame's length". "Start and arrival also answer with two sums over that call's frames": own and relayed, at a base with that
-- identifier (document 02, request 2)
abbrev pub with_sums : (ℕ → ℕ → ℕ → ℕ → ℕ → Outcome) → ℕ → List Message → Outcome
with_sums ends own says =
    ends (get_or (lengths says) 0 0) (get_or (lengths says) 1 0) (get_or (lengths says) 2 0) (own_slots own says) (relayed_slots own says)

-- "Its answer is accepted or discarded"
unfoldable pub outcome_with : ℕ → Answer → List Message → Outcome
outcome_with own accepted says = with_sums Accepted own says
outcome_with own discarded says = with_sums Discarded own says
outcome_with own (refused r) says = Refused r

-- what a step answers; the own identifier is that of the base it leaves, as no call changes it
abbrev pub outcome_of : Done → Outcome
outcome_of d = outcome_with d.base.own d.answer d.says

-- "Output bytes past them are unchanged."
unfoldable pub output_of : Done → List ℕ → List ℕ
output_of d output = over (encode_all d.says) output

-- ---- the leader
-- "The leader is the largest identifier of the final list."
unfoldable pub leader_of : List ℕ → ℕ
leader_of [] = 0
leader_of (x ∷ l) = choose (leb x (leader_of l)) (leader_of l) x

unfoldable pub leader_answer : Base → Leader
leader_answer b =
    choose (eqb (record_refusal b) 0)
    (choose (stopped b) (leads.Is (leader_of (final_list b))) leads.NotStopped)
    (leads.Refused (record_refusal b))

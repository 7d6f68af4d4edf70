-- Agreement (demand 3): one statement about a whole list of events, over the definitions of Net. Agreement/Theorem proves it;
-- docs/AGREEMENT.md tells the argument in words and lists what a reader has to believe.
use Rattle.std.specs.Prelude.{ℕ, zero, suc, ◌+◌, ◌^◌, ◌≤◌, ◌<◌, ◌≡◌, ◌≢◌, ◌⊎◌, ◌↔◌, true, false, List, [], ◌∷◌, length}
use Rattle.limits.specs.Limits.{most_faulty}
use Rattle.limits.specs.Refusals.{NetSize}
use Rattle.lists.specs.Choice.{first}
use Rattle.lists.specs.Lists.{Below, sort}
use Rattle.frame.specs.Message.{Message}
use Rattle.frame.specs.Encoding.{encode}
use Rattle.frame.specs.Reading.{burst_refusal, message_of}
use Rattle.protocol.specs.Record.{final_list}
use Rattle.protocol.specs.Record.Memory.{Sized}
use Rattle.protocol.specs.Sound.{idle, record_refusal}
use Rattle.protocol.specs.Steps.{leader_of, link_refusal, output_refusal}
use Rattle.protocol.specs.Numbering.{link_to}
use Rattle.protocol.specs.Net.{Net, Pair, Event, starts, carry, forge, broadcast, call, event_refusal, call_refusal, run}
use Rattle.protocol.specs.Net.{started, has_stopped, waiting, leader_named}
pub mod Views
pub mod Calls
pub mod Growth
pub mod Invariant
pub mod Premise

-- ---- what is given
-- b is one of the bases 1 to n
pub record BaseOf (n b : ℕ) : Type 0 where
  pub least : 1 ≤ b
  pub most : b ≤ n

pub record Setting (n t : ℕ) (faulty : List Pair) : Type 0 where
  -- "n bases, 2 to 16. t is at most (n − 2) / 2 rounded down"
  pub size : NetSize n
  pub limit : t ≤ most_faulty n
  -- "Any set of at most t links is faulty, the same for the whole list."
  pub few_faulty : length faulty ≤ t

-- the net at the beginning
pub record Fresh (n t : ℕ) (W : Net) : Type 0 where
  -- "It begins with n sound idle records, of one n and one t, that hold nothing from any link": a sound idle record holds nothing
  pub record_n : (b : ℕ) → BaseOf n b → (W.base b).n ≡ n
  pub record_t : (b : ℕ) → BaseOf n b → (W.base b).t ≡ t
  pub sound : (b : ℕ) → BaseOf n b → record_refusal (W.base b) ≡ 0
  pub idle : (b : ℕ) → BaseOf n b → idle (W.base b) ≡ true
  -- the arrays of a record in memory have their lengths, and its own identifier has 32 bits
  pub sized : (b : ℕ) → BaseOf n b → Sized (W.base b)
  pub word : (b : ℕ) → BaseOf n b → (W.base b).own < 2 ^ 32
  -- "An identifier is a 32-bit number above zero, different at each base."
  pub different : (a b : ℕ) → BaseOf n a → BaseOf n b → (W.base a).own ≡ (W.base b).own → a ≡ b
  -- "and with no broadcast and no carry"
  pub silent : (b : ℕ) → BaseOf n b → W.log b ≡ []
  pub uncarried : (a b k : ℕ) → W.carried a b k ≡ false

-- "With a and b two different bases"; and bytes are bytes
abbrev pub Proper : ℕ → Event → Type 0
Proper n (starts b room) = BaseOf n b
Proper n (carry a b k room) = BaseOf n a × BaseOf n b × (a ≢ b)
Proper n (forge a b bytes room) = BaseOf n a × BaseOf n b × (a ≢ b) × Below 256 bytes

abbrev pub AllProper : ℕ → List Event → Type 0
AllProper n [] = Unit {0}
AllProper n (e ∷ es) = Proper n e × AllProper n es

-- ---- what is shown
-- "Their own identifiers are the true ones.": of the bases n to 1
unfoldable pub true_identifiers : ℕ → Net → List ℕ
true_identifiers zero W = []
true_identifiers (suc n) W = (W.base (suc n)).own ∷ true_identifiers n W

-- after the events es, from the net W on
pub record Agreed (n : ℕ) (faulty : List Pair) (W : Net) (es : List Event) : Type 0 where
  -- every base that has stopped is prime or secondary
  pub state : (b : ℕ) → BaseOf n b → has_stopped (run faulty W es) b ≡ true
      → (((run faulty W es).base b).state ≡ 2) ⊎ (((run faulty W es).base b).state ≡ 3)
  -- and holds exactly all true identifiers, sorted
  pub final : (b : ℕ) → BaseOf n b → has_stopped (run faulty W es) b ≡ true
      → final_list ((run faulty W es).base b) ≡ sort (true_identifiers n W)
  -- all that have stopped name the leader that the rule takes from the true identifiers
  pub leader : (b : ℕ) → BaseOf n b → has_stopped (run faulty W es) b ≡ true
      → leader_named (run faulty W es) b ≡ leader_of (true_identifiers n W)
  -- if every base has been started and nothing waits, every base has stopped
  pub ends : ((b : ℕ) → BaseOf n b → started faulty W es b ≡ true) → waiting n faulty (run faulty W es) ≡ 0
      → (b : ℕ) → BaseOf n b → has_stopped (run faulty W es) b ≡ true

-- the statement: after any list of events
abbrev pub Agreement : Type 0
Agreement = (n t : ℕ) (faulty : List Pair) (W : Net) (es : List Event) → Setting n t faulty → Fresh n t W → AllProper n es
    → Agreed n faulty W es

-- ---- what holds besides, after any list of events
-- a frame is read at a base of a net of n as the message that it encodes
pub record ReadBack (n : ℕ) (frame : List ℕ) : Type 0 where
  pub message : Message
  pub written : frame ≡ encode message
  pub accepted : burst_refusal n frame ≡ 0
  pub reads : message_of frame ≡ message

-- of the net W after the events
pub record Orderly (n t : ℕ) (faulty : List Pair) (W : Net) : Type 0 where
  -- "A base broadcasts at most n + 3 in its life."
  pub life : (b : ℕ) → BaseOf n b → length (W.log b) ≤ n + 3
  -- each record keeps its n and t
  pub keeps_n : (b : ℕ) → BaseOf n b → (W.base b).n ≡ n
  pub keeps_t : (b : ℕ) → BaseOf n b → (W.base b).t ≡ t
  -- "It has stopped once it has broadcast a Correct-Final; its state is then 2 or 3.": then, and only then
  pub stops : (b : ℕ) → BaseOf n b → (has_stopped W b ≡ true) ↔ (((W.base b).state ≡ 2) ⊎ ((W.base b).state ≡ 3))
  -- no call on a base is turned down for its record, 1 to 4, or for its link, 5
  pub records : (b : ℕ) → BaseOf n b → record_refusal (W.base b) ≡ 0
  pub links : (a b : ℕ) → BaseOf n a → BaseOf n b → a ≢ b → link_refusal (W.base b).n (link_to b a) ≡ 0
  -- every frame that was broadcast is read back, at every base, as the message that was sent
  pub frames : (a b k : ℕ) → BaseOf n a → BaseOf n b → 1 ≤ k → k ≤ length (W.log a) → ReadBack (W.base b).n (broadcast W a k)
  -- so a start, and a carry that 16 and 17 let pass, is turned down by its call for a short output (6) alone,
  -- and a forgery for its burst (7 to 12) besides
  pub start_call_lem : (b room : ℕ) → BaseOf n b → call_refusal (call W (starts b room)).answer ≡ output_refusal room
  pub carry_call_lem : (a b k room : ℕ) → BaseOf n a → BaseOf n b → a ≢ b → event_refusal faulty W (carry a b k room) ≡ 0
      → call_refusal (call W (carry a b k room)).answer ≡ output_refusal room
  pub forge_call : (a b room : ℕ) (bytes : List ℕ) → BaseOf n a → BaseOf n b → a ≢ b
      → call_refusal (call W (forge a b bytes room)).answer ≡ first (output_refusal room) (burst_refusal n bytes)

abbrev pub Order : Type 0
Order = (n t : ℕ) (faulty : List Pair) (W : Net) (es : List Event) → Setting n t faulty → Fresh n t W → AllProper n es
    → Orderly n t faulty (run faulty W es)

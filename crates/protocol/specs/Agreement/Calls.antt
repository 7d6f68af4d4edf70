-- What one call does to a base, as the argument needs it: a list of facts about the view before, the view after and the messages broadcast.
-- Observers proves them of the steps of document 01; Kept shows that they keep the net's invariant.
use Rattle.std.specs.Prelude.{ℕ, ◌+◌, ◌≤◌, ◌<◌, min, ◌≡◌, ◌≢◌, ◌⊎◌, true, false, List, length}
use Rattle.lists.specs.Lists.{member, distinct}
use Rattle.frame.specs.Message.{Message, announce, verify, correct_final, verify_final}
use Rattle.protocol.specs.Agreement.Views.{View, Said, ViewHolds, Certified, corrects, Prime, Secondary, Lists}

pub data ViewInput : Type 0 where
  start_input : ViewInput
  -- a message on the link to base x
  message_input : ℕ → Message → ViewInput

-- ---- one base at all times
-- the part of a sound record that the argument uses, of the base me whose identifier is own
pub record SoundView (n me own : ℕ) (b : View) : Type 0 where
  pub own_named : b.named me ≡ own
  pub states : b.state ≤ 3
  pub names_apart : (x y : ℕ) → x < n → y < n → 1 ≤ b.named x → b.named x ≡ b.named y → x ≡ y
  -- there is no link from a base to itself
  pub own_correct : (v : List ℕ) → b.correct me v ≡ false
  pub own_vote : (v : List ℕ) → b.vote me v ≡ false
  pub verifies_once : (x : ℕ) → x < n → distinct (b.verifies x) ≡ true

-- a running base has acted on all that it holds: both checks fail of it as it stands, and
-- with two Correct-Finals of one list it has sent a Verify-Final
pub record Quiescent (n t me : ℕ) (b : View) : Type 0 where
  pub not_prime : b.state ≡ 1 → Prime n t me b → ⊥
  pub not_secondary : (v : List ℕ) → b.state ≡ 1 → Secondary n t b v → ⊥
  pub has_voted : (v : List ℕ) → b.state ≡ 1 → b.sent ≡ 0 → corrects n b v ≤ 1

-- ---- how a base may change
-- what is held stays, but that a Correct-Final replaces a Verify-Final; a stopped base stays as it is
pub record Grows (b c : View) : Type 0 where
  pub names : (x : ℕ) → 1 ≤ b.named x → c.named x ≡ b.named x
  pub verifies : (x g : ℕ) → member g (b.verifies x) ≡ true → member g (c.verifies x) ≡ true
  pub corrects : (x : ℕ) (v : List ℕ) → b.correct x v ≡ true → c.correct x v ≡ true
  pub votes : (x : ℕ) (v : List ℕ) → b.vote x v ≡ true → (c.vote x v ≡ true) ⊎ ((u : List ℕ) × (c.correct x u ≡ true))
  pub state : b.state ≤ c.state
  pub sent : b.sent ≤ c.sent
  pub stays : 2 ≤ b.state → (c.state ≡ b.state) × (c.final ≡ b.final)

-- "if the link's list is full": Announce and Verify together are n + 1
abbrev pub Full : ℕ → View → ℕ → Type 0
Full n b x = n + 1 ≤ length (b.verifies x) + min 1 (b.named x)

-- what becomes of an arrival at a base that runs on: it is held, or what discarded it was there before
abbrev pub Taken : ℕ → View → View → ℕ → Message → Type 0
Taken n b c x (announce g) = Certified n c g ⊎ ((1 ≤ b.named x) ⊎ Full n b x)
Taken n b c x (verify g) = (member g (c.verifies x) ≡ true) ⊎ Full n b x
Taken n b c x (correct_final v) = (c.correct x v ≡ true) ⊎ ((u : List ℕ) × (b.correct x u ≡ true))
Taken n b c x (verify_final v) = (c.vote x v ≡ true) ⊎ (((u : List ℕ) × (b.correct x u ≡ true)) ⊎ ((u : List ℕ) × (b.vote x u ≡ true)))

-- what the record of a base shows for a message that it has broadcast
abbrev pub Backed : ℕ → ℕ → View → Message → Type 0
Backed n own b (announce g) = g ≡ own
Backed n own b (verify g) = (1 ≤ g) × Certified n b g
Backed n own b (correct_final v) = (2 ≤ b.state) × (b.final ≡ v)
Backed n own b (verify_final v) = (2 ≤ corrects n b v) × (1 ≤ b.sent)

-- how a base has come to be stopped: it was before, or one of the checks holds of it
pub data Stopping (n t me : ℕ) (b c : View) : Type 0 where
  before : 2 ≤ b.state → Stopping n t me b c
  as_prime : c.state ≡ 2 → Prime n t me c → Lists n c.named c.final → Stopping n t me b c
  as_secondary : c.state ≡ 3 → Secondary n t c c.final → Stopping n t me b c

-- ---- one call at the base me
pub record ViewCall (n t me own : ℕ) (i : ViewInput) (b c : View) (says : List Message) : Type 0 where
  pub grows : Grows b c
  pub runs : 1 ≤ c.state
  pub quiescent : Quiescent n t me c
  -- what is held was held before, or has just arrived; what has arrived is taken
  pub heard : (x : ℕ) (m : Message) → x ≢ me → ViewHolds c x m → ViewHolds b x m ⊎ (i ≡ message_input x m)
  pub taken : (x : ℕ) (m : Message) → i ≡ message_input x m → c.state ≤ 1 → Taken n b c x m
  pub stopping : 2 ≤ c.state → Stopping n t me b c
  -- what is broadcast is backed, and a Verify-Final is broadcast once
  pub backed : (m : Message) → Said m says → Backed n own c m
  pub vote_first : (v : List ℕ) → Said (verify_final v) says → b.sent ≡ 0
  pub vote_one : (v u : List ℕ) → Said (verify_final v) says → Said (verify_final u) says → v ≡ u
  -- what is new in the record is broadcast
  pub start_said : 1 ≤ c.state → (1 ≤ b.state) ⊎ Said (announce own) says
  pub names_said : (x : ℕ) → x < n → 1 ≤ c.named x → ((1 ≤ b.state) × (c.named x ≡ b.named x)) ⊎ Said (verify (c.named x)) says
  pub vote_said : 1 ≤ c.sent → (1 ≤ b.sent) ⊎ ((v : List ℕ) × Said (verify_final v) says)
  pub stop_said : 2 ≤ c.state → (2 ≤ b.state) ⊎ Said (correct_final c.final) says

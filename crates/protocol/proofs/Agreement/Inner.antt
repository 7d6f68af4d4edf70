-- The inner theorem: agreement in any group of bases that move by the start and the arrival of document 01, where a message that arrives
-- over a good link is in its sender's log. It asks nothing of faulty links, nothing of order or repetition, and of n only what Premises
-- ask. Which events a net knows, and what it turns down, is the outer layer's.
use Rattle.std.specs.Prelude.{ℕ, ◌≤◌, ◌<◌, ◌≡◌, ◌≢◌, ◌⊎◌, Bool, true, false, List, [], ◌++◌, length}
use Rattle.frame.specs.Message.{Message, correct_final, Valid}
use Rattle.protocol.specs.declared.Base.{Base}
use Rattle.protocol.specs.Record.{final_list}
use Rattle.protocol.specs.Record.Memory.{Sized, Words}
use Rattle.protocol.specs.Sound.{idle, record_refusal}
use Rattle.protocol.specs.Steps.{Done, start_step, arrival_step}
use Rattle.protocol.specs.Net.{replaced}
use Rattle.protocol.specs.Agreement.Views.{Said}
use Rattle.protocol.specs.Agreement.Invariant.{broadcast_at}
use Rattle.protocol.proofs.Agreement.Observers.{place_of}
pub mod Begins
pub mod Life
pub mod Moves
pub mod Theorem

-- the record of a base of the group: of the group's n and t, with its own identifier, sound, and as a record lies in memory
pub record Member (n t own : ℕ) (b : Base) : Type 0 where
  pub n_is : b.n ≡ n
  pub t_is : b.t ≡ t
  pub own_is : b.own ≡ own
  pub refusal : record_refusal b ≡ 0
  pub sized : Sized b
  pub words : Words b

pub record Group : Type 0 where
  pub base : ℕ → Base
  -- the broadcasts of each base, in order
  pub log : ℕ → List Message
  -- whether x's broadcast number k, from 0, was handed over to y
  pub handed : ℕ → ℕ → ℕ → Bool

-- the group after a call at the base y
unfoldable pub group_after : Group → ℕ → Done → (ℕ → ℕ → ℕ → Bool) → Group
group_after N y d handed = record { base = replaced y d.base N.base; log = replaced y (N.log y ++ d.says) N.log; handed = handed }

-- the group at the beginning: idle bases, no broadcast, nothing handed over
pub record FreshGroup (n t : ℕ) (id : ℕ → ℕ) (N : Group) : Type 0 where
  pub member : (x : ℕ) → x < n → Member n t (id x) (N.base x)
  pub idle : (x : ℕ) → x < n → idle (N.base x) ≡ true
  pub silent : (x : ℕ) → x < n → N.log x ≡ []
  pub nothing : (x y k : ℕ) → N.handed x y k ≡ false

-- broadcasts that count as handed over after m has arrived at y from x: those that did before, and those of x's log that are m
abbrev pub HandedOver : Group → ℕ → ℕ → Message → (ℕ → ℕ → ℕ → Bool) → Type 0
HandedOver N x y m handed = (a c k : ℕ) → handed a c k ≡ true
    → (N.handed a c k ≡ true) ⊎ ((a ≡ x) × (c ≡ y) × (k < length (N.log x)) × (broadcast_at (N.log x) k ≡ m))

-- the groups that can be reached from it
pub data ReachedGroup (n t : ℕ) (faulty : ℕ → ℕ → ℕ) (id : ℕ → ℕ) : Group → Type 0 where
  fresh : {N : Group} → FreshGroup n t id N → ReachedGroup n t faulty id N
  -- a start at y
  group_starts : {N : Group} → ReachedGroup n t faulty id N → (y : ℕ) → y < n
      → ReachedGroup n t faulty id (group_after N y (start_step (N.base y)) N.handed)
  -- a valid message arrives at y on its link to x: on a good link it is in x's log
  group_arrives : {N : Group} → ReachedGroup n t faulty id N → (x y : ℕ) (m : Message) (handed : ℕ → ℕ → ℕ → Bool) → x < n → y < n → x ≢ y
      → Valid n m
      → (faulty x y ≡ 0 → Said m (N.log x)) → HandedOver N x y m handed
      → ReachedGroup n t faulty id (group_after N y (arrival_step (N.base y) (place_of y x) m) handed)

-- what the theorem says of a group that was reached
pub record Agrees (n : ℕ) (faulty : ℕ → ℕ → ℕ) (truth : List ℕ) (N : Group) : Type 0 where
  pub states : (x : ℕ) (v : List ℕ) → x < n → Said (correct_final v) (N.log x) → (2 ≤ (N.base x).state) × ((N.base x).state ≤ 3)
  pub finals : (x : ℕ) (v : List ℕ) → x < n → Said (correct_final v) (N.log x) → (v ≡ truth) × (final_list (N.base x) ≡ truth)
  pub ends : ((x : ℕ) → x < n → 1 ≤ (N.base x).state)
      → ((x y k : ℕ) → x < n → y < n → x ≢ y → faulty x y ≡ 0 → k < length (N.log x) → N.handed x y k ≡ true)
      → (x : ℕ) → x < n → Said (correct_final truth) (N.log x)

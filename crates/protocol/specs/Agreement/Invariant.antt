-- The net as the argument sees it, what the argument asks of it, and what holds in every state that it can reach. Each line of the
-- invariant is a fact about the present state; none speaks of time.
use Rattle.std.specs.Prelude.{ℕ, ◌+◌, ◌*◌, ◌≤◌, ◌<◌, ◌≡◌, ◌≢◌, Bool, true, List, length, get_or}
use Rattle.counting.specs.Degrees.{total, Symmetric}
use Rattle.counting.specs.Pigeonhole.{Injective}
use Rattle.frame.specs.Message.{Message, announce, verify, correct_final, verify_final}
use Rattle.protocol.specs.Agreement.Views.{View, Said, ViewHolds, Certified, Lists}
use Rattle.protocol.specs.Agreement.Calls.{SoundView, Quiescent, Backed}
use Rattle.protocol.specs.Agreement.Growth.{Delivered}

-- n bases with identifiers id; faulty x y is 1 where the link of x and y is faulty, and 0
-- where it is good; truth lists the true identifiers
pub record Premises (n t : ℕ) (faulty : ℕ → ℕ → ℕ) (id : ℕ → ℕ) (truth : List ℕ) : Type 0 where
  pub symmetric : Symmetric faulty
  -- at most t faulty links: each counts at both its ends
  pub few_faulty : total n faulty ≤ 2 * t
  pub enough : 2 * t + 2 ≤ n
  pub ids_apart : Injective n id
  pub ids_above_zero : (x : ℕ) → x < n → 1 ≤ id x
  pub truth_lists : Lists n id truth

pub record State : Type 0 where
  pub base : ℕ → View
  -- the broadcasts of each base, in order
  pub log : ℕ → List Message
  -- whether x's broadcast number k, from 0, was handed over to y
  pub handed : ℕ → ℕ → ℕ → Bool

-- the broadcast number k of a log
abbrev pub broadcast_at : List Message → ℕ → Message
broadcast_at log k = get_or log k (announce 0)

pub record Invariant (n t : ℕ) (faulty : ℕ → ℕ → ℕ) (id : ℕ → ℕ) (truth : List ℕ) (N : State) : Type 0 where
  -- ---- each base
  pub sound : (x : ℕ) → x < n → SoundView n x (id x) (N.base x)
  pub quiescent : (x : ℕ) → x < n → Quiescent n t x (N.base x)
  -- ---- its log: each broadcast is backed by the record, and what the record shows was broadcast
  pub backed : (x : ℕ) (m : Message) → x < n → Said m (N.log x) → Backed n (id x) (N.base x) m
  pub start_said : (x : ℕ) → x < n → 1 ≤ (N.base x).state → Said (announce (id x)) (N.log x)
  pub names_said : (x y : ℕ) → x < n → y < n → 1 ≤ (N.base x).state → 1 ≤ (N.base x).named y → Said (verify ((N.base x).named y)) (N.log x)
  pub vote_said : (x : ℕ) → x < n → 1 ≤ (N.base x).sent → (v : List ℕ) × Said (verify_final v) (N.log x)
  pub vote_one : (x : ℕ) (v u : List ℕ) → x < n → Said (verify_final v) (N.log x) → Said (verify_final u) (N.log x) → v ≡ u
  pub stop_said : (x : ℕ) → x < n → 2 ≤ (N.base x).state → Said (correct_final (N.base x).final) (N.log x)
  -- ---- each good link: what y holds from x is in x's log, and what was handed over to y is delivered while y runs
  pub heard : (y x : ℕ) (m : Message) → y < n → x < n → x ≢ y → faulty x y ≡ 0 → ViewHolds (N.base y) x m → Said m (N.log x)
  pub delivered : (x y k : ℕ) → x < n → y < n → x ≢ y → faulty x y ≡ 0 → N.handed x y k ≡ true
      → (k < length (N.log x)) × ((N.base y).state ≤ 1 → Delivered n (N.base y) x (broadcast_at (N.log x) k))
  -- ---- the net: a stopped base holds the truth, a prime one has certified it, and a secondary one was preceded by a prime one
  pub final_true : (x : ℕ) → x < n → 2 ≤ (N.base x).state → (N.base x).final ≡ truth
  pub prime_knows : (x y : ℕ) → x < n → y < n → (N.base x).state ≡ 2 → Certified n (N.base x) (id y)
  pub prime_first : (x : ℕ) → x < n → (N.base x).state ≡ 3 → (a : ℕ) × (a < n) × ((N.base a).state ≡ 2)

-- What an event and a call that are not turned down have: a carry names a message that
-- was broadcast, a forgery is put on a faulty link, and a call is a step on the record.
use Rattle.std.specs.Prelude.{ℕ, suc, ◌-◌, ◌≤◌, ◌<◌, ◌≡◌, refl, ◌⊎◌, true, false, List, [], map, eqb, length, get_or}
use Rattle.std.proofs.Common.{ap₂, ◌∙◌, inl, inr, arith, eqb-true, ltb-false}
use Rattle.std.proofs.lemmas.Bool.{eqb-false}
use Rattle.lists.specs.Choice.{and}
use Rattle.lists.specs.Choice.Laws.{passed, first_passed, or_true, or_false, and_true}
use Rattle.frame.specs.Message.{Message}
use Rattle.frame.specs.Encoding.{encode}
use Rattle.frame.specs.Reading.{burst_refusal, message_of}
use Rattle.protocol.specs.declared.Base.{Base}
use Rattle.protocol.specs.Steps.{Done, start_step, start, arrival_step, arrival_refusal, arrival}
use Rattle.protocol.proofs.Steps.Refusals.{start_answered, arrival_answered}
use Rattle.protocol.specs.Net.{Net, Pair, good, carry, forge, broadcast, event_refusal, call_refusal, carried_after}
use Rattle.protocol.specs.Agreement.Invariant.{broadcast_at}
use Rattle.protocol.proofs.Agreement.Outer.Frames.{frame_encoded}

-- ---- 16: a carry that is not turned down names a message that was broadcast
pub carry_names_broadcast : (faulty : List Pair) (W : Net) (a b k room : ℕ) → event_refusal faulty W (carry a b k room) ≡ 0
    → k ≤ length (W.log a)
unfolding event_refusal
carry_names_broadcast faulty W a b k room e = ltb-false (length (W.log a)) k (or_false _ _ (passed _ _ _ e).0).1

-- and it has a number
pub carry_has_number : (faulty : List Pair) (W : Net) (a b room : ℕ) → event_refusal faulty W (carry a b 0 room) ≡ 0 → ⊥
unfolding event_refusal
carry_has_number faulty W a b room e = eqb-false 0 0 (or_false _ _ (passed _ _ _ e).0).0 refl

-- ---- 18: a forgery that is not turned down is put on a faulty link
pub forgery_on_faulty_link : (faulty : List Pair) (W : Net) (a b room : ℕ) (bytes : List ℕ)
    → event_refusal faulty W (forge a b bytes room) ≡ 0 → good faulty a b ≡ false
unfolding event_refusal
forgery_on_faulty_link faulty W a b room bytes e = (passed _ _ _ e).0

-- the frame that it names is the encoding of the message of that number
pub encoded_at : (W : Net) (a k : ℕ) (log : List Message) → W.log a ≡ map encode log → k < length log
    → broadcast W a (suc k) ≡ encode (broadcast_at log k)
unfolding broadcast
encoded_at W a k log e h = ap₂ (λ (l : List (List ℕ)) (j : ℕ). get_or l j []) {x = W.log a} {y = map encode log} e (before k)
    ∙ frame_encoded log k h
  where
    before : (k : ℕ) → suc k - 1 ≡ k
    before k = omega arith

-- ---- calls that are not turned down
pub start_done : (b : Base) (room : ℕ) → call_refusal (start b room).answer ≡ 0 → start b room ≡ start_step b
start_done b room = start_answered (λ (d : Done). d ≡ start_step b) b room (λ e. refl)

pub arrival_done : (b : Base) (link : ℕ) (burst : List ℕ) (room : ℕ) → call_refusal (arrival b link burst room).answer ≡ 0
    → (arrival b link burst room ≡ arrival_step b (link - 1) (message_of burst)) × (burst_refusal b.n burst ≡ 0)
arrival_done b link burst room = arrival_answered
    (λ (d : Done). (d ≡ arrival_step b (link - 1) (message_of burst)) × (burst_refusal b.n burst ≡ 0)) b link burst room
    (λ e. (refl, read e))
  where
    read : arrival_refusal b link burst room ≡ 0 → burst_refusal b.n burst ≡ 0
    read e = unfold arrival_refusal in (first_passed _ _ (first_passed _ _ (first_passed _ _ e).1).1).1

-- ---- what a carry adds to the carries made
pub carried_cases : (W : Net) (a b k room x y j : ℕ) → carried_after W (carry a b k room) x y j ≡ true
    → (W.carried x y j ≡ true) ⊎ ((x ≡ a) × (y ≡ b) × (j ≡ k))
unfolding carried_after
carried_cases W a b k room x y j h = elim (or_true (and (eqb x a) (and (eqb y b) (eqb j k))) (W.carried x y j) h) [
  | inr old ↦ inl old
  | inl now ↦ (let p = and_true (eqb x a) (and (eqb y b) (eqb j k)) now in let q = and_true (eqb y b) (eqb j k) p.1 in
      inr (eqb-true x a p.0, eqb-true y b q.0, eqb-true j k q.1))
]

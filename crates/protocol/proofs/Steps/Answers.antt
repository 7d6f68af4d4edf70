-- What the answers say of the record: a call that is turned down, or discarded at a base that is not idle, changes nothing and broadcasts
-- nothing, and no call does at a base that has stopped. A call is turned down by the numbers of its checks and by no other.
use Rattle.std.specs.Prelude.{ℕ, ◌-◌, ◌≡◌, refl, ◌≢◌, true, false, List, [], eqb}
use Rattle.std.proofs.Common.{sym, ap, ◌∙◌, subst, arith, eqb-true}
use Rattle.lists.specs.Choice.{first}
use Rattle.lists.specs.Choice.Laws.{clash, choose_ind}
use Rattle.frame.specs.Message.{Message}
use Rattle.frame.specs.Encoding.{over}
use Rattle.frame.proofs.Encoding.Laws.{over_nothing}
use Rattle.frame.specs.Reading.{message_of}
use Rattle.protocol.specs.declared.Base.{Base}
use Rattle.protocol.proofs.Sound.Idle.{stopped_not_idle}
use Rattle.protocol.specs.Sound.{idle, stopped, record_refusal}
use Rattle.protocol.specs.Steps.{accepted, discarded, Done, refuses, discards, accepts, stops, on_message, begins}
use Rattle.protocol.specs.Steps.{start_step, start, arrival_step, output_refusal, unless, arrival_refusal, arrival, encode_all, output_of}
use Rattle.protocol.specs.Steps.Cases.{begun}
use Rattle.protocol.proofs.Steps.Cases.{Ends, discarding, running_on, stopping, message_ends}
use Rattle.protocol.proofs.Steps.Cases.{after_start, start_step_cases, arrival_step_cases, arrival_stopped, arrival_idle}
use Rattle.protocol.proofs.Steps.Refusals.{start_cases, arrival_cases}
use Rattle.protocol.specs.Net.{call_refusal}

-- nothing is changed and nothing broadcast
pub record Unchanged (b : Base) (d : Done) : Type 0 where
  pub base : d.base ≡ b
  pub says : d.says ≡ []

refuses_unchanged : (b : Base) (r : ℕ) → Unchanged b (refuses b r)
unfolding refuses
refuses_unchanged b r = record { base = refl; says = refl }

discards_unchanged : (b : Base) → Unchanged b (discards b)
unfolding discards
discards_unchanged b = record { base = refl; says = refl }

-- "leaves record and output bytes alone"
pub unchanged_output : {b : Base} {d : Done} → Unchanged b d → (output : List ℕ) → output_of d output ≡ output
unfolding output_of encode_all
unchanged_output U output = ap (λ (says : List Message). over (encode_all says) output) U.says ∙ over_nothing output

-- ---- a message
not_accepted : accepted ≡ discarded → ⊥
not_accepted e = let z : ◌≡◌ {A = ℕ} 0 1 = cc in omega arith

ends_discarded : {b : Base} {i : ℕ} {m : Message} {d : Done} → Ends b i m d → d.answer ≡ discarded → d ≡ discards b
unfolding accepts stops
ends_discarded discarding e = refl
ends_discarded (running_on T) e = absurd (not_accepted e)
ends_discarded (stopping T D) e = absurd (not_accepted e)

pub message_discarded : (b : Base) (i : ℕ) (m : Message) → (on_message b i m).answer ≡ discarded → on_message b i m ≡ discards b
message_discarded b i m = ends_discarded (message_ends b i m)

ends_answer : {b : Base} {i : ℕ} {m : Message} {d : Done} → Ends b i m d → call_refusal d.answer ≡ 0
unfolding discards accepts stops call_refusal
ends_answer discarding = refl
ends_answer (running_on T) = refl
ends_answer (stopping T D) = refl

-- ---- steps answer accepted or discarded
abbrev Answers : Done → Type 0
Answers d = call_refusal d.answer ≡ 0

discards_answer : (b : Base) → Answers (discards b)
unfolding discards call_refusal
discards_answer b = refl

start_step_answer : (b : Base) → Answers (start_step b)
start_step_answer b = start_step_cases Answers b (λ _. unfold begins accepts call_refusal in refl) (λ _. discards_answer b)

arrival_step_answer : (b : Base) (i : ℕ) (m : Message) → Answers (arrival_step b i m)
arrival_step_answer b i m = arrival_step_cases Answers b i m (λ _. discards_answer b)
    (λ _. unfold after_start in ends_answer (message_ends (begun b) i m)) (λ _. ends_answer (message_ends b i m))

-- ---- the number by which a call is turned down
unless_number : (r : ℕ) (b : Base) (d : Done) → Answers d → call_refusal (unless r b d).answer ≡ r
unfolding unless refuses call_refusal
unless_number r b d a = choose_ind (λ (x : Done). call_refusal x.answer ≡ r) (eqb r 0) (λ e. a ∙ sym (eqb-true r 0 e)) (λ _. refl)

pub start_number : (b : Base) (room : ℕ) → call_refusal (start b room).answer ≡ first (record_refusal b) (output_refusal room)
unfolding start
start_number b room = unless_number (first (record_refusal b) (output_refusal room)) b (start_step b) (start_step_answer b)

pub arrival_number : (b : Base) (link : ℕ) (burst : List ℕ) (room : ℕ)
    → call_refusal (arrival b link burst room).answer ≡ arrival_refusal b link burst room
unfolding arrival
arrival_number b link burst room = unless_number (arrival_refusal b link burst room) b (arrival_step b (link - 1) (message_of burst))
    (arrival_step_answer b (link - 1) (message_of burst))

-- ---- a call that is turned down
-- where a step answers, a call that gives a number was turned down
turned_down : {b : Base} {d : Done} → Answers d → call_refusal d.answer ≢ 0 → Unchanged b d
turned_down a h = absurd (h a)

pub start_refused : (b : Base) (room : ℕ) → call_refusal (start b room).answer ≢ 0 → Unchanged b (start b room)
start_refused b room = start_cases (λ (d : Done). call_refusal d.answer ≢ 0 → Unchanged b d) b room (λ r _ _. refuses_unchanged b r)
    (λ _. turned_down (start_step_answer b))

pub arrival_refused : (b : Base) (link : ℕ) (burst : List ℕ) (room : ℕ) → call_refusal (arrival b link burst room).answer ≢ 0
    → Unchanged b (arrival b link burst room)
arrival_refused b link burst room =
    arrival_cases (λ (d : Done). call_refusal d.answer ≢ 0 → Unchanged b d) b link burst room (λ r _ _. refuses_unchanged b r)
    (λ _. turned_down (arrival_step_answer b (link - 1) (message_of burst)))

-- ---- discarded at a base that is not idle
pub start_discarded : (b : Base) (room : ℕ) → idle b ≡ false → Unchanged b (start b room)
start_discarded b room on = start_cases (Unchanged b) b room (λ r _. refuses_unchanged b r)
    (λ _. start_step_cases (Unchanged b) b (λ off. clash off on) (λ _. discards_unchanged b))

discarded_step : (b : Base) (i : ℕ) (m : Message) → idle b ≡ false → (arrival_step b i m).answer ≡ discarded
    → Unchanged b (arrival_step b i m)
discarded_step b i m on =
    arrival_step_cases (λ (d : Done). d.answer ≡ discarded → Unchanged b d) b i m (λ _ _. discards_unchanged b) (λ off. clash off on)
    (λ _ e. subst (Unchanged b) (sym (message_discarded b i m e)) (discards_unchanged b))

pub arrival_discarded : (b : Base) (link : ℕ) (burst : List ℕ) (room : ℕ) → idle b ≡ false → (arrival b link burst room).answer ≡ discarded
    → Unchanged b (arrival b link burst room)
arrival_discarded b link burst room on = arrival_cases (λ (d : Done). d.answer ≡ discarded → Unchanged b d) b link burst room
    (λ r _ _. refuses_unchanged b r) (λ _. discarded_step b (link - 1) (message_of burst) on)

-- "a discarded arrival at an idle base still gives the two frames of its start"
pub idle_discarded : (b : Base) (i : ℕ) (m : Message) → idle b ≡ true → (arrival_step b i m).answer ≡ discarded
    → arrival_step b i m ≡ after_start b (discards (begun b))
idle_discarded b i m off e = arrival_idle b i m off ∙ ap (after_start b) (message_discarded (begun b) i m (sym answer ∙ e))
  where
    answer : (arrival_step b i m).answer ≡ (on_message (begun b) i m).answer
    answer = ap (λ (d : Done). d.answer) (arrival_idle b i m off) ∙ (unfold after_start in refl)

-- ---- a base that has stopped
pub stopped_start : (b : Base) (room : ℕ) → stopped b ≡ true → Unchanged b (start b room)
stopped_start b room e = start_discarded b room (stopped_not_idle b e)

pub stopped_arrival : (b : Base) (link : ℕ) (burst : List ℕ) (room : ℕ) → stopped b ≡ true → Unchanged b (arrival b link burst room)
stopped_arrival b link burst room e = arrival_cases (Unchanged b) b link burst room (λ r _. refuses_unchanged b r)
    (λ _. subst (Unchanged b) (sym (arrival_stopped b (link - 1) (message_of burst) e)) (discards_unchanged b))

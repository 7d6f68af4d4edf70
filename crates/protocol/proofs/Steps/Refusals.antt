-- A call is turned down and changes nothing, or it is a step: what holds of both holds of the call. And what a call that is not turned down
-- has: a sound record, room in the output, a link's place and a valid message.
use Rattle.std.specs.Prelude.{ℕ, ◌-◌, ◌≤◌, ◌<◌, ◌≡◌, ◌≢◌, not, List, eqb}
use Rattle.std.proofs.Common.{◌∙◌, subst, arith, ltb-false, lt-ltb, le-ltb, eqb-true, eq-eqb, ne_eqb}
use Rattle.std.proofs.lemmas.Bool.{eqb-false}
use Rattle.limits.specs.Limits.{output_room}
use Rattle.limits.specs.Refusals.{NetSize}
use Rattle.limits.specs.Refusals.Laws.{net_passes}
use Rattle.lists.specs.Choice.{first}
use Rattle.lists.specs.Choice.Laws.{choose_ind, choose_yes, choose_no, or_false, or_first}
use Rattle.lists.specs.Choice.Laws.{or_second, or_neither, passed, first_none, first_passed}
use Rattle.lists.specs.Lists.{Below}
use Rattle.frame.specs.Message.{Message, Valid}
use Rattle.frame.specs.Reading.{burst_refusal, read_refusal, message_of}
use Rattle.frame.proofs.Reading.Theorems.{accepted_sent, message_unique}
use Rattle.protocol.specs.declared.Base.{Base}
use Rattle.protocol.specs.Sound.{record_refusal}
use Rattle.protocol.proofs.Sound.Laws.{record_passed}
use Rattle.protocol.specs.Net.{call_refusal}
use Rattle.protocol.specs.Steps.{Done, refuses, start_step, arrival_step, link_refusal}
use Rattle.protocol.specs.Steps.{output_refusal, unless, start, arrival_refusal, arrival}

-- a call that is not turned down is a step, and one that is changes nothing
pub unless_passed : {r : ℕ} (b : Base) (d : Done) → r ≡ 0 → unless r b d ≡ d
unfolding unless
unless_passed {r} b d e = choose_yes _ _ (eq-eqb r 0 e)

pub unless_refused_lem : {r : ℕ} (b : Base) (d : Done) → r ≢ 0 → unless r b d ≡ refuses b r
unfolding unless
unless_refused_lem {r} b d e = choose_no _ _ (ne_eqb r 0 e)

unless_cases : (P : Done → Type 0) (r : ℕ) (b : Base) (d : Done) → (r ≢ 0 → P (refuses b r)) → (r ≡ 0 → P d) → P (unless r b d)
unfolding unless
unless_cases P r b d down on = choose_ind P (eqb r 0) (λ e. on (eqb-true r 0 e)) (λ e. down (eqb-false r 0 e))

pub start_cases : (P : Done → Type 0) (b : Base) (room : ℕ) → ((r : ℕ) → r ≢ 0 → P (refuses b r)) → (record_refusal b ≡ 0
    → P (start_step b))
    → P (start b room)
unfolding start
start_cases P b room down on =
    unless_cases P (first (record_refusal b) (output_refusal room)) b (start_step b) (down _) (λ e. on (first_passed _ _ e).0)

pub arrival_cases : (P : Done → Type 0) (b : Base) (link : ℕ) (burst : List ℕ) (room : ℕ) → ((r : ℕ) → r ≢ 0 → P (refuses b r))
    → (arrival_refusal b link burst room ≡ 0 → P (arrival_step b (link - 1) (message_of burst))) → P (arrival b link burst room)
unfolding arrival
arrival_cases P b link burst room down =
    unless_cases P (arrival_refusal b link burst room) b (arrival_step b (link - 1) (message_of burst)) (down _)

-- what holds of the step holds of a call that is not turned down
refuses_not : (P : Done → Type 0) (b : Base) (r : ℕ) → r ≢ 0 → call_refusal (refuses b r).answer ≡ 0 → P (refuses b r)
unfolding refuses call_refusal
refuses_not P b r h e = absurd (h e)

pub start_answered : (P : Done → Type 0) (b : Base) (room : ℕ) → (record_refusal b ≡ 0 → P (start_step b))
    → call_refusal (start b room).answer ≡ 0 → P (start b room)
start_answered P b room on = start_cases (λ (d : Done). call_refusal d.answer ≡ 0 → P d) b room (refuses_not P b) (λ e _. on e)

pub arrival_answered : (P : Done → Type 0) (b : Base) (link : ℕ) (burst : List ℕ) (room : ℕ)
    → (arrival_refusal b link burst room ≡ 0 → P (arrival_step b (link - 1) (message_of burst)))
    → call_refusal (arrival b link burst room).answer ≡ 0 → P (arrival b link burst room)
arrival_answered P b link burst room on =
    arrival_cases (λ (d : Done). call_refusal d.answer ≡ 0 → P d) b link burst room (refuses_not P b) (λ e _. on e)

-- ---- what is not turned down
-- an arrival: a record to work on, a link's place and a valid message
pub record Heard (b : Base) (i : ℕ) (m : Message) : Type 0 where
  pub refusal : record_refusal b ≡ 0
  pub place : i < b.n - 1
  pub valid : Valid b.n m

pub burst_valid : (n : ℕ) → NetSize n → (s : List ℕ) → Below 256 s → burst_refusal n s ≡ 0 → Valid n (message_of s)
unfolding read_refusal
burst_valid n N s bytes e =
    let S = accepted_sent n N s bytes (first_none _ (net_passes N) ∙ e) in
    subst (Valid n) (message_unique n N s S) S.valid

-- what numbers 5 and 6 leave
pub link_passed : (n link : ℕ) → link_refusal n link ≡ 0 → (1 ≤ link) × (link ≤ n - 1)
unfolding link_refusal
link_passed n link e =
    let p = or_false _ _ (passed _ 4 _ e).0 in
    (ltb-false link 1 p.0, ltb-false (n - 1) link p.1)

pub output_passed : (room : ℕ) → output_refusal room ≡ 0 → output_room ≤ room
unfolding output_refusal
output_passed room e = ltb-false room output_room (passed _ 5 _ e).0

-- and what they are given for
pub link_short : (n link : ℕ) → link < 1 → link_refusal n link ≡ 5
unfolding link_refusal
link_short n link h = choose_yes _ _ (or_first _ (lt-ltb link 1 h))

pub link_far : (n link : ℕ) → 1 ≤ link → n ≤ link → link_refusal n link ≡ 5
unfolding link_refusal
link_far n link h k = choose_yes _ _ (or_second _ (lt-ltb (n - 1) link (omega arith)))

pub link_near : (n link : ℕ) → 1 ≤ link → link < n → link_refusal n link ≡ 0
unfolding link_refusal
link_near n link h k = choose_no _ _ (or_neither (le-ltb link 1 h) (le-ltb (n - 1) link (omega arith)))

pub output_short : (room : ℕ) → room < output_room → output_refusal room ≡ 6
unfolding output_refusal
output_short room h = choose_yes _ _ (lt-ltb room output_room h)

pub output_wide : (room : ℕ) → output_room ≤ room → output_refusal room ≡ 0
unfolding output_refusal
output_wide room h = choose_no _ _ (le-ltb room output_room h)

pub arrival_heard : (b : Base) (link : ℕ) (burst : List ℕ) (room : ℕ) → Below 256 burst → arrival_refusal b link burst room ≡ 0
    → Heard b (link - 1) (message_of burst)
unfolding arrival_refusal
arrival_heard b link burst room bytes e =
    let p = first_passed _ _ e in
    let q = first_passed _ _ p.1 in
    let r = first_passed _ _ q.1 in
    let N = (record_passed b p.0).net in
    let l = link_passed b.n link q.0 in
    record { refusal = p.0; place = omega (arith, l); valid = burst_valid b.n N burst bytes r.1 }

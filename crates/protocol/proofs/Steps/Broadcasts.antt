-- Every message that a call broadcasts is valid for the base's net, so that it reads back as itself. A base broadcasts its own identifier,
-- an identifier or a list of the valid message that it took in, or the certified identifiers in order.
use Rattle.std.specs.Prelude.{ℕ, zero, suc, ◌-◌, ◌^◌, ◌≤◌, ◌<◌, ◌≡◌, refl, not, length, get_or}
use Rattle.std.proofs.Common.{sym, ap, subst, arith, ne_eqb}
use mathlib.Core.List.{List, [], ◌∷◌, ◌++◌}
use Rattle.limits.specs.Limits.{most_links}
use Rattle.lists.specs.Choice.{choose, or}
use Rattle.lists.specs.Choice.Laws.{and_both}
use Rattle.lists.specs.Lists.{nonzero, ascending, Below}
use Rattle.lists.specs.Lists.Sets.{below_cons}
use Rattle.lists.specs.Lists.Sorted.{below_sort}
use Rattle.frame.specs.Message.{Message, announce, verify, correct_final, verify_final, kind_of, ids_of, holds_one, expected, Valid}
use Rattle.protocol.specs.declared.Base.{Base}
use Rattle.protocol.specs.Record.{link_at, link_count, announced, certified}
use Rattle.protocol.proofs.Record.Laws.{link_room}
use Rattle.protocol.proofs.Record.Announced.{announced_ind}
use Rattle.protocol.specs.Record.Memory.{Sized, Words}
use Rattle.protocol.specs.Sound.{record_refusal}
use Rattle.protocol.proofs.Sound.Laws.{record_passed}
use Rattle.protocol.proofs.Sound.Running.{Runs, admitted_runs, begun_runs, takes_runs}
use Rattle.protocol.specs.Steps.{Done, refuses, discards, accepts, with_state, stops}
use Rattle.protocol.specs.Steps.{on_message, begins, start_step, start, arrival_step, arrival}
use Rattle.protocol.proofs.Steps.Cases.{Takes, takes_announce, takes_verify, takes_correct, takes_and_votes, takes_verify_final}
use Rattle.protocol.proofs.Steps.Cases.{Decides, decides_prime, decides_secondary, Ends, discarding, running_on}
use Rattle.protocol.specs.Steps.Cases.{begun}
use Rattle.protocol.proofs.Steps.Cases.{stopping, message_ends, after_start, start_step_cases, arrival_step_cases}
use Rattle.protocol.proofs.Steps.Refusals.{Heard, arrival_heard, start_cases, arrival_cases}
use Rattle.protocol.proofs.Steps.Decided.{Roster, decides_roster}
use Rattle.protocol.proofs.Steps.Laws.{takes_rest}
use Rattle.protocol.proofs.Steps.Memory.{takes_words, stops_words, begun_sized, begun_words}

-- ---- messages all of which are valid
abbrev pub AllValid : ℕ → List Message → Type 0
AllValid n [] = Unit {0}
AllValid n (m ∷ says) = Valid n m × AllValid n says

pub all_append : (n : ℕ) (a b : List Message) → AllValid n a → AllValid n b → AllValid n (a ++ b)
all_append n [] b p q = q
all_append n (m ∷ a) b p q = (p.0, all_append n a b p.1 q)

pub all_valid_at : (n : ℕ) (says : List Message) (k : ℕ) (none : Message) → AllValid n says → k < length says → Valid n (get_or says k none)
all_valid_at n [] k none p h = absurd (omega arith)
all_valid_at n (m ∷ says) zero none p h = p.0
all_valid_at n (m ∷ says) (suc k) none p h = all_valid_at n says k none p.1 (omega arith)

-- ---- one identifier, one list
own_valid : (n g : ℕ) → 1 ≤ g → g < 2 ^ 32 → Valid n (announce g)
unfolding ids_of kind_of expected holds_one or choose nonzero ascending
own_valid n g some word = record {
  count = refl;
  above_zero = and_both (ap not (ne_eqb g 0 (λ e. omega arith))) refl;
  ascends = refl;
  words = below_cons (2 ^ 32) g [] word (λ i. omega arith);
}

verify_valid : (n g : ℕ) → Valid n (announce g) → Valid n (verify g)
unfolding ids_of kind_of expected holds_one or choose
verify_valid n g w = record { count = w.count; above_zero = w.above_zero; ascends = w.ascends; words = w.words }

final_valid : (n : ℕ) (v : List ℕ) → Valid n (correct_final v) → Valid n (verify_final v)
unfolding ids_of kind_of expected holds_one or choose
final_valid n v w = record { count = w.count; above_zero = w.above_zero; ascends = w.ascends; words = w.words }

roster_valid : (n : ℕ) (v : List ℕ) → Roster n v → Below (2 ^ 32) v → Valid n (correct_final v)
unfolding ids_of kind_of expected holds_one or choose
roster_valid n v R words = record { count = R.count; above_zero = R.above_zero; ascends = R.ascends; words = words }

-- ---- a message is taken in, and a base stops
takes_valid : {b : Base} {i : ℕ} {m : Message} {c : Base} {said : List Message} (n : ℕ) → Takes b i m c said → Valid n m → AllValid n said
takes_valid n (takes_announce g p q r) w = (verify_valid n g w, tt)
takes_valid n (takes_verify g p q) w = tt
takes_valid n (takes_correct v o p) w = tt
takes_valid n (takes_and_votes v o p) w = (final_valid n v w, tt)
takes_valid n (takes_verify_final v o) w = tt

certified_words : (c : Base) → Words c → Below (2 ^ 32) (certified c)
unfolding certified
certified_words c W = below_cons (2 ^ 32) c.own (announced (link_count c) (link_at c)) W.own (announced_ind
    (λ (k : ℕ) (l : List ℕ). k ≤ most_links → Below (2 ^ 32) l) (link_at c) (λ _ i. omega arith)
    (λ k e p h. below_cons (2 ^ 32) (link_at c k).announce (announced k (link_at c)) (W.announced k (omega arith)) (p (omega arith)))
    (λ k e p h. p (omega arith)) (link_count c) (link_room c))

decides_valid : {c : Base} {m : Message} {state : ℕ} {v : List ℕ} → Runs c → Words c → Valid c.n m → Decides c m state v
    → Valid c.n (correct_final v)
decides_valid {c} {m} {v = v} R W w D = roster_valid c.n v (decides_roster R.standing.own R.standing.apart w D) (words D)
  where
    words : {state : ℕ} {v : List ℕ} → Decides c m state v → Below (2 ^ 32) v
    words (decides_prime H e) = below_sort (2 ^ 32) (certified c) (omega arith) (certified_words c W)
    words (decides_secondary H e) = w.words

-- ---- steps
-- the messages broadcast are valid, and the record's identifiers still have 32 bits
pub record Spoken (b : Base) (d : Done) : Type 0 where
  pub valid : AllValid b.n d.says
  pub words : Words d.base

module _ {b : Base} (R : Runs b) (S : Sized b) (W : Words b) (i : ℕ) (below : i < b.n - 1) (m : Message) (w : Valid b.n m) where
  taken_words : {c : Base} {said : List Message} → Takes b i m c said → Words c
  taken_words T = takes_words T (omega (arith, below, R.standing.net.most)) w.words S W

  ends_spoken : {d : Done} → Ends b i m d → Spoken b d
  unfolding discards accepts
  ends_spoken discarding = record { valid = tt; words = W }
  ends_spoken (running_on T) = record { valid = takes_valid b.n T w; words = taken_words T }
  ends_spoken (stopping {c = c} {said = said} {state = state} {v = v} T D) = record {
    valid = unfold stops in all_append b.n said (correct_final v ∷ []) (takes_valid b.n T w) (final, tt);
    words = stops_words c state v said (taken_words T);
  }
    where
      same : c.n ≡ b.n
      same = (takes_rest T).setting.n

      final : Valid b.n (correct_final v)
      final = subst (λ (n : ℕ). Valid n (correct_final v)) same
          (decides_valid (takes_runs R S below T w) (taken_words T) (subst (λ (n : ℕ). Valid n m) (sym same) w) D)

  message_spoken : Spoken b (on_message b i m)
  message_spoken = ends_spoken (message_ends b i m)

discards_spoken : (b : Base) → Words b → Spoken b (discards b)
unfolding discards
discards_spoken b W = record { valid = tt; words = W }

refuses_spoken : (b : Base) (r : ℕ) → Words b → Spoken b (refuses b r)
unfolding refuses
refuses_spoken b r W = record { valid = tt; words = W }

-- the two messages of a start, and those that follow
start_valid : (b : Base) → record_refusal b ≡ 0 → Words b → (says : List Message) → AllValid b.n says
    → AllValid b.n (announce b.own ∷ (verify b.own ∷ says))
start_valid b e W says p =
    let own = own_valid b.n b.own (record_passed b e).own W.own in
    (own, (verify_valid b.n b.own own, p))

pub start_step_spoken : (b : Base) → Words b → record_refusal b ≡ 0 → Spoken b (start_step b)
start_step_spoken b W e = start_step_cases (Spoken b) b (λ _. begins_spoken) (λ _. discards_spoken b W)
  where
    begins_spoken : Spoken b (begins b)
    begins_spoken = unfold begins accepts in record { valid = start_valid b e W [] tt; words = begun_words b W }

after_spoken : (b : Base) (d : Done) → record_refusal b ≡ 0 → Words b → Spoken (begun b) d → Spoken b (after_start b d)
unfolding after_start with_state
after_spoken b d e W P = record { valid = start_valid b e W d.says P.valid; words = P.words }

pub arrival_step_spoken : (b : Base) (i : ℕ) (m : Message) → Sized b → Words b → Heard b i m → Spoken b (arrival_step b i m)
arrival_step_spoken b i m S W H = arrival_step_cases (Spoken b) b i m (λ _. discards_spoken b W)
    (λ off. after_spoken b (on_message (begun b) i m) H.refusal W (message_spoken (begun_runs b H.refusal off) (begun_sized b S)
    (begun_words b W) i (unfold with_state in H.place) m (unfold with_state in H.valid)))
    (λ on. message_spoken (admitted_runs b H.refusal on) S W i H.place m H.valid)

-- ---- the calls
pub start_spoken : (b : Base) (room : ℕ) → Words b → Spoken b (start b room)
start_spoken b room W = start_cases (Spoken b) b room (λ r _. refuses_spoken b r W) (start_step_spoken b W)

pub arrival_spoken : (b : Base) (link : ℕ) (burst : List ℕ) (room : ℕ) → Sized b → Words b → Below 256 burst
    → Spoken b (arrival b link burst room)
arrival_spoken b link burst room S W bytes = arrival_cases (Spoken b) b link burst room (λ r _. refuses_spoken b r W)
    (λ e. arrival_step_spoken b _ _ S W (arrival_heard b link burst room bytes e))

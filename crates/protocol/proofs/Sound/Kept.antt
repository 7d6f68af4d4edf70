-- Soundness is kept: a call that is not turned down leaves a record that is not turned down, of the same n, t
-- and own identifier. A running record stays sound while a message is taken in, since the changed link stays
-- sound and the certified identifiers stay different; a base that stops does so with n identifiers, above
-- zero and ascending. That a call that is turned down returns the record as it came is in Steps/Answers.
use Rattle.std.specs.Prelude.{ℕ, ◌-◌, ◌≤◌, ◌<◌, ◌≡◌, true, List, length}
use Rattle.std.proofs.Math.Path.{refl}
use Rattle.std.proofs.Common.{sym, ◌∙◌, subst, arith, le-leb}
use Rattle.limits.specs.Limits.{most_bases, most_links}
use Rattle.lists.specs.Choice.Laws.{choose_yes}
use Rattle.lists.specs.Lists.{Below}
use Rattle.frame.specs.Message.{Message, ids_of, Valid}
use Rattle.protocol.specs.declared.Base.{Base}
use Rattle.protocol.specs.Record.{link_at, link_count, certified}
use Rattle.protocol.specs.Record.Memory.{Sized}
use Rattle.protocol.specs.Sound.{stopped, final_sound, record_refusal}
use Rattle.protocol.proofs.Sound.Laws.{ListParts, parts_list}
use Rattle.protocol.specs.Steps.{Done, discards, accepts, with_state, with_final, stops}
use Rattle.protocol.specs.Steps.{on_message, begins, start_step, start, arrival_step, arrival}
use Rattle.protocol.proofs.Steps.Cases.{Decides, decides_prime, decides_secondary, Ends, discarding, running_on}
use Rattle.protocol.specs.Steps.Cases.{begun}
use Rattle.protocol.proofs.Steps.Cases.{stopping, message_ends, after_start, start_step_cases, arrival_step_cases}
use Rattle.protocol.proofs.Steps.Refusals.{Heard, arrival_heard, start_answered, arrival_answered}
use Rattle.protocol.proofs.Steps.Decided.{Roster, decides_roster, roster_padded}
use Rattle.protocol.proofs.Steps.Laws.{SameSetting, takes_rest}
use Rattle.protocol.proofs.Steps.Memory.{takes_sized, stops_sized, begun_sized}
use Rattle.protocol.proofs.Steps.Sizes.{valid_fits}
use Rattle.protocol.proofs.Sound.Running.{Standing, standing_admitted, Runs, runs_admitted, admitted_runs, begun_runs, takes_runs}
use Rattle.protocol.specs.Net.{call_refusal}

-- what a call keeps
pub record Kept (b : Base) (d : Done) : Type 0 where
  pub setting : SameSetting b d.base
  pub sized : Sized d.base
  pub refusal : record_refusal d.base ≡ 0

-- ---- a base that stops
decides_state : {c : Base} {m : Message} {state : ℕ} {v : List ℕ} → Decides c m state v → (2 ≤ state) × (state ≤ 3)
decides_state (decides_prime H e) = (omega arith, omega arith)
decides_state (decides_secondary H e) = (omega arith, omega arith)

stopped_final : (b : Base) → 2 ≤ b.state → ListParts b.n b.final_list → final_sound b ≡ true
unfolding final_sound stopped
stopped_final b h L = choose_yes _ _ (le-leb 2 b.state h) ∙ parts_list L

stops_standing : (c : Base) (state : ℕ) (v : List ℕ) (said : List Message) → Standing c → Standing (stops c state v said).base
unfolding stops accepts with_state with_final link_at link_count certified
stops_standing c state v said S = record { net = S.net; few = S.few; own = S.own; sent = S.sent; place = S.place; apart = S.apart }

stops_admitted : (c : Base) (state : ℕ) (v : List ℕ) (said : List Message) → Standing c → (2 ≤ state) × (state ≤ 3) → Roster c.n v
    → record_refusal (stops c state v said).base ≡ 0
unfolding stops accepts with_state with_final
stops_admitted c state v said S range R = standing_admitted (stops_standing c state v said S) (omega (arith, range.0)) range.1
    (stopped_final (stops c state v said).base range.0 (roster_padded R))

stops_setting : (b c : Base) (state : ℕ) (v : List ℕ) (said : List Message) → SameSetting b c → SameSetting b (stops c state v said).base
unfolding stops accepts with_state with_final
stops_setting b c state v said same = record { n = same.n; t = same.t; own = same.own }

-- ---- steps
pub same_setting : (b : Base) → SameSetting b b
same_setting b = record { n = refl; t = refl; own = refl }

module _ {b : Base} (R : Runs b) (S : Sized b) (i : ℕ) (below : i < b.n - 1) (m : Message) (w : Valid b.n m) where
  inside : i < most_links
  inside = omega (arith, below, R.standing.net.most)

  fits : length (ids_of m) ≤ most_bases
  fits = valid_fits b m (runs_admitted R) w

  ends_kept : {d : Done} → Ends b i m d → Kept b d
  unfolding discards accepts
  ends_kept discarding = record { setting = same_setting b; sized = S; refusal = runs_admitted R }
  ends_kept (running_on T) =
      record { setting = (takes_rest T).setting; sized = takes_sized T inside fits S; refusal = runs_admitted (takes_runs R S below T w) }
  ends_kept (stopping {c = c} {said = said} {state = state} {v = v} T D) = record {
    setting = stops_setting b c state v said (takes_rest T).setting;
    sized = stops_sized c state v said (omega (arith, roster.count, runs.standing.net.most)) (takes_sized T inside fits S);
    refusal = stops_admitted c state v said runs.standing (decides_state D) roster;
  }
    where
      runs : Runs c
      runs = takes_runs R S below T w

      roster : Roster c.n v
      roster =
          decides_roster runs.standing.own runs.standing.apart (subst (λ (n : ℕ). Valid n m) (sym (takes_rest T).setting.n) w) D

  pub message_kept : Kept b (on_message b i m)
  message_kept = ends_kept (message_ends b i m)

discards_kept : (b : Base) → Sized b → record_refusal b ≡ 0 → Kept b (discards b)
unfolding discards
discards_kept b S e = record { setting = same_setting b; sized = S; refusal = e }

pub start_step_kept : (b : Base) → Sized b → record_refusal b ≡ 0 → Kept b (start_step b)
start_step_kept b S e = start_step_cases (Kept b) b (λ off. begins_kept (begun_runs b e off)) (λ _. discards_kept b S e)
  where
    begins_kept : Runs (begun b) → Kept b (begins b)
    begins_kept R = unfold begins accepts with_state in record {
      setting = record { n = refl; t = refl; own = refl };
      sized = begun_sized b S;
      refusal = runs_admitted R;
    }

-- a base that was started first
after_kept : (b : Base) (d : Done) → Kept (begun b) d → Kept b (after_start b d)
unfolding after_start with_state
after_kept b d K =
    record { setting = record { n = K.setting.n; t = K.setting.t; own = K.setting.own }; sized = K.sized; refusal = K.refusal }

pub arrival_step_kept : (b : Base) (i : ℕ) (m : Message) → Sized b → Heard b i m → Kept b (arrival_step b i m)
arrival_step_kept b i m S H = arrival_step_cases (Kept b) b i m (λ _. discards_kept b S H.refusal)
    (λ off. after_kept b (on_message (begun b) i m)
    (message_kept (begun_runs b H.refusal off) (begun_sized b S) i (unfold with_state in H.place) m (unfold with_state in H.valid)))
    (λ on. message_kept (admitted_runs b H.refusal on) S i H.place m H.valid)

-- ---- the calls
pub start_kept : (b : Base) (room : ℕ) → Sized b → call_refusal (start b room).answer ≡ 0 → Kept b (start b room)
start_kept b room S = start_answered (Kept b) b room (start_step_kept b S)

pub arrival_kept : (b : Base) (link : ℕ) (burst : List ℕ) (room : ℕ) → Sized b → Below 256 burst
    → call_refusal (arrival b link burst room).answer ≡ 0 → Kept b (arrival b link burst room)
arrival_kept b link burst room S bytes =
    arrival_answered (Kept b) b link burst room (λ e. arrival_step_kept b _ _ S (arrival_heard b link burst room bytes e))

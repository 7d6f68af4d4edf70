-- The calls on one base over its life, whatever they are and however they end: the record keeps its
-- sizes, its n, t and own identifier, and stays sound. Once it has stopped it never changes again, nor
-- does one that is turned down.
use Rattle.std.specs.Prelude.{ℕ, ◌≡◌, refl, ◌≢◌, true, List, [], ◌∷◌, ◌++◌}
use Rattle.std.proofs.Common.{sym, ap, ap₂, ◌∙◌}
use Rattle.lists.specs.Choice.Laws.{first_passed}
use Rattle.protocol.specs.declared.Base.{Base}
use Rattle.protocol.specs.Record.Memory.{Sized}
use Rattle.protocol.specs.Sound.{stopped, record_refusal}
use Rattle.protocol.proofs.Sound.Kept.{Kept, same_setting, start_step_kept, arrival_step_kept}
use Rattle.protocol.specs.Steps.{Done, refuses, arrival_refusal}
use Rattle.protocol.proofs.Steps.Answers.{Unchanged, start_number, arrival_number, start_refused, arrival_refused}
use Rattle.protocol.proofs.Steps.Answers.{stopped_start, stopped_arrival}
use Rattle.protocol.proofs.Steps.Refusals.{start_cases, arrival_cases, arrival_heard}
use Rattle.protocol.proofs.Steps.Laws.{SameSetting}
use Rattle.protocol.specs.Steps.Calls.{AllBytes, Call, CallBytes, after_calls, arrival_call, called, life, start_call}

-- ---- what every call keeps, turned down or not
pub record Held (b : Base) (d : Done) : Type 0 where
  pub setting : SameSetting b d.base
  pub sized : Sized d.base
  pub refusal : record_refusal b ≡ 0 → record_refusal d.base ≡ 0

refuses_held : (b : Base) (r : ℕ) → Sized b → Held b (refuses b r)
unfolding refuses
refuses_held b r S = record { setting = same_setting b; sized = S; refusal = λ e. e }

kept_held : {b : Base} {d : Done} → Kept b d → Held b d
kept_held K = record { setting = K.setting; sized = K.sized; refusal = λ _. K.refusal }

pub call_held : (b : Base) (c : Call) → Sized b → CallBytes c → Held b (called b c)
unfolding called
call_held b (start_call room) S bytes = start_cases (Held b) b room (λ r _. refuses_held b r S) (λ e. kept_held (start_step_kept b S e))
call_held b (arrival_call link burst room) S bytes = arrival_cases (Held b) b link burst room (λ r _. refuses_held b r S)
    (λ e. kept_held (arrival_step_kept b _ _ S (arrival_heard b link burst room bytes e)))

pub calls_sized : (b : Base) (calls : List Call) → Sized b → AllBytes calls → Sized (after_calls b calls)
unfolding after_calls
calls_sized b [] S bytes = S
calls_sized b (c ∷ calls) S bytes = calls_sized (called b c).base calls (call_held b c S bytes.0).sized bytes.1

pub after_setting : (b : Base) (calls : List Call) → Sized b → AllBytes calls → SameSetting b (after_calls b calls)
unfolding after_calls
after_setting b [] S bytes = same_setting b
after_setting b (c ∷ calls) S bytes =
    let H = call_held b c S bytes.0 in
    let A = after_setting (called b c).base calls H.sized bytes.1 in
    record { n = A.n ∙ H.setting.n; t = A.t ∙ H.setting.t; own = A.own ∙ H.setting.own }

pub after_sound : (b : Base) (calls : List Call) → Sized b → AllBytes calls → record_refusal b ≡ 0
    → record_refusal (after_calls b calls) ≡ 0
unfolding after_calls
after_sound b [] S bytes e = e
after_sound b (c ∷ calls) S bytes e =
    let H = call_held b c S bytes.0 in
    after_sound (called b c).base calls H.sized bytes.1 (H.refusal e)

-- ---- a base that no call changes
unchanged_for_ever : (b : Base) → ((c : Call) → Unchanged b (called b c)) → (calls : List Call)
    → (after_calls b calls ≡ b) × (life b calls ≡ [])
unfolding after_calls life
unchanged_for_ever b same [] = (refl, refl)
unchanged_for_ever b same (c ∷ calls) = go (unchanged_for_ever b same calls)
  where
    go : (after_calls b calls ≡ b) × (life b calls ≡ [])
        → (after_calls (called b c).base calls ≡ b) × ((called b c).says ++ life (called b c).base calls ≡ [])
    go r = (
      ap (λ (x : Base). after_calls x calls) (same c).base ∙ r.0,
      ap₂ ◌++◌ (same c).says (ap (λ (x : Base). life x calls) (same c).base ∙ r.1),
    )

-- one that has stopped
stopped_call : (b : Base) → stopped b ≡ true → (c : Call) → Unchanged b (called b c)
unfolding called
stopped_call b e (start_call room) = stopped_start b room e
stopped_call b e (arrival_call link burst room) = stopped_arrival b link burst room e

pub stopped_for_ever : (b : Base) (calls : List Call) → stopped b ≡ true → (after_calls b calls ≡ b) × (life b calls ≡ [])
stopped_for_ever b calls e = unchanged_for_ever b (stopped_call b e) calls

-- one whose record is turned down
refused_call : (b : Base) → record_refusal b ≢ 0 → (c : Call) → Unchanged b (called b c)
unfolding called arrival_refusal
refused_call b h (start_call room) = start_refused b room (λ z. h (first_passed _ _ (sym (start_number b room) ∙ z)).0)
refused_call b h (arrival_call link burst room) =
    arrival_refused b link burst room (λ z. h (first_passed _ _ (sym (arrival_number b link burst room) ∙ z)).0)

pub refused_for_ever : (b : Base) (calls : List Call) → record_refusal b ≢ 0 → (after_calls b calls ≡ b) × (life b calls ≡ [])
refused_for_ever b calls h = unchanged_for_ever b (refused_call b h) calls

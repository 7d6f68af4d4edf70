-- Laws of steps: what a step that is not turned down tells, and a step that does nothing more.
use Rattle.std.specs.Prelude.{ℕ, ◌≡◌, eqb}
use Rattle.std.proofs.Common.{eqb-true}
use Rattle.std.proofs.lemmas.Bool.{eqb-false}
use Rattle.lists.specs.Choice.Laws.{choose_ind}
use Rattle.schedule.specs.Walk.{judged, unless_refused}
use Rattle.schedule.proofs.Walk.Laws.{Unrefused}
use Rattle.schedule.specs.Meaning.{Progress, refuse, scheduled}

-- ---- a line that is not turned down
pub judged_ind : (P : Progress → Type 0) (r : ℕ) (before after : Progress)
    → (r ≡ 0 → P after) → ((r ≡ 0 → ⊥) → P (refuse r before)) → P (judged scheduled r before after)
unfolding judged
judged_ind P r before after on off = choose_ind P (eqb r 0) (λ e. on (eqb-true r 0 e)) (λ e. off (eqb-false r 0 e))

pub unless_ind : (P : Progress → Type 0) (st next : Progress)
    → (st.refusal ≡ 0 → P next) → ((st.refusal ≡ 0 → ⊥) → P st) → P (unless_refused scheduled st next)
unfolding unless_refused
unless_ind P st next on off =
    choose_ind P (eqb st.refusal 0) (λ e. on (eqb-true st.refusal 0 e)) (λ e. off (eqb-false st.refusal 0 e))

pub refuse_unrefused : (P : Progress → Type 0) (r : ℕ) (st : Progress) → (r ≡ 0 → ⊥) → Unrefused scheduled P (refuse r st)
unfolding refuse
refuse_unrefused P r st n e = absurd (n e)

pub judged_unrefused : (P : Progress → Type 0) (r : ℕ) (before after : Progress)
    → (r ≡ 0 → Unrefused scheduled P after) → Unrefused scheduled P (judged scheduled r before after)
judged_unrefused P r before after on = judged_ind (Unrefused scheduled P) r before after on (λ n. refuse_unrefused P r before n)

pub unless_unrefused : (P : Progress → Type 0) (st next : Progress)
    → (st.refusal ≡ 0 → Unrefused scheduled P next) → Unrefused scheduled P (unless_refused scheduled st next)
unless_unrefused P st next on = unless_ind (Unrefused scheduled P) st next on (λ n e. absurd (n e))

-- Laws of the walk: a step again and again, and when it is done.
use Rattle.std.specs.Prelude.{ℕ, zero, suc, ◌+◌, ◌-◌, ◌≤◌, ◌≡◌, refl}
use Rattle.std.proofs.Common.{sym, ap, ◌∙◌, add-one, arith}
use Rattle.schedule.specs.Walk.{Walkable, repeat}

-- ---- a fact of what a walk keeps, asked only where no line is turned down
abbrev pub Unrefused : {Q : Type 0} → Walkable Q → (Q → Type 0) → Q → Type 0
Unrefused K P q = K.refusal q ≡ 0 → P q

-- ---- the same step again and again
pub repeat_ind : {A : Type 0} (P : A → Type 0) (f : A → A)
    → ((st : A) → P st → P (f st)) → (k : ℕ) (st : A) → P st → P (repeat k f st)
unfolding repeat
repeat_ind P f step zero st p = p
repeat_ind P f step (suc k) st p = step (repeat k f st) (repeat_ind P f step k st p)

pub repeat_none : {A : Type 0} (f : A → A) (first : A) → first ≡ repeat 0 f first
unfolding repeat
repeat_none f first = refl

pub repeat_more : {A : Type 0} (k : ℕ) (f : A → A) (first : A) {p q : A}
    → p ≡ repeat k f first → q ≡ f p → q ≡ repeat (k + 1) f first
unfolding repeat
repeat_more k f first e q = q ∙ ap f e ∙ ap (λ (j : ℕ). repeat j f first) (sym (add-one k))

-- once the step changes nothing, it is done
stays : {A : Type 0} (f : A → A) (j : ℕ) (p : A) → f p ≡ p → repeat j f p ≡ p
unfolding repeat
stays f zero p e = refl
stays f (suc j) p e = ap f (stays f j p e) ∙ e

repeat_sum : {A : Type 0} (j k : ℕ) (f : A → A) (first : A)
    → repeat (j + k) f first ≡ repeat j f (repeat k f first)
unfolding repeat
repeat_sum zero k f first = let z : 0 + k ≡ k = omega arith in ap (λ (i : ℕ). repeat i f first) z
repeat_sum (suc j) k f first = let z : suc j + k ≡ suc (j + k) = omega arith in
    ap (λ (i : ℕ). repeat i f first) z ∙ ap f (repeat_sum j k f first)

-- the first step, then the others
pub repeat_first : {A : Type 0} (k : ℕ) (f : A → A) (first : A) → repeat (suc k) f first ≡ repeat k f (f first)
unfolding repeat
repeat_first k f first = ap (λ (i : ℕ). repeat i f first) (sym (add-one k)) ∙ repeat_sum k 1 f first

pub repeat_done : {A : Type 0} (m k : ℕ) (f : A → A) (first : A) {p : A}
    → k ≤ m → p ≡ repeat k f first → f p ≡ p → p ≡ repeat m f first
repeat_done m k f first {p} l e done =
    let d : (m - k) + k ≡ m = omega arith in
    sym (sym (ap (λ (i : ℕ). repeat i f first) d)
    ∙ repeat_sum (m - k) k f first ∙ ap (repeat (m - k) f) (sym e) ∙ stays f (m - k) p done)

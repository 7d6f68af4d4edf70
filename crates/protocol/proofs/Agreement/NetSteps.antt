-- One step of the net: a call at one base, of which the argument asks no more than that a message handed over on a good link is in its
-- sender's log. Which events lead to such steps, and how links carry them, is settled outside the argument.
use Rattle.std.specs.Prelude.{ℕ, ◌<◌, ◌≡◌, ◌≢◌, ◌⊎◌, true, List, ◌++◌, length}
use Rattle.std.proofs.Common.{sym, subst₂}
use mathlib.Core.List.Memᴰ
use Rattle.std.proofs.Math.Decide.{ℕ_discrete}
use Rattle.frame.specs.Message.{Message}
use Rattle.protocol.specs.Agreement.Views.{View, Said}
use Rattle.protocol.specs.Agreement.Calls.{ViewInput, message_input, SoundView, Grows, ViewCall}
use Rattle.protocol.proofs.Agreement.Growth.{grows_not}
use Rattle.protocol.specs.Agreement.Invariant.{State, broadcast_at}

pub record NetStep (n t : ℕ) (faulty : ℕ → ℕ → ℕ) (id : ℕ → ℕ) (N M : State) : Type 0 where
  -- the base that is called, with what, what it is left as and what it broadcasts
  pub me : ℕ
  pub inside : me < n
  pub input : ViewInput
  pub left : View
  pub says : List Message
  pub call : ViewCall n t me (id me) input (N.base me) left says
  pub sound : SoundView n me (id me) left
  -- M is N with that base and its log replaced
  pub base_here : M.base me ≡ left
  pub log_here : M.log me ≡ N.log me ++ says
  pub base_other : (x : ℕ) → x ≢ me → M.base x ≡ N.base x
  pub log_other : (x : ℕ) → x ≢ me → M.log x ≡ N.log x
  -- what arrives on a good link is in the log of the base at its other end
  pub source : (x : ℕ) (m : Message) → x < n → x ≢ me → faulty x me ≡ 0 → input ≡ message_input x m → Said m (N.log x)
  -- what is newly handed over is what arrives
  pub newly : (x y k : ℕ) → M.handed x y k ≡ true
      → (N.handed x y k ≡ true) ⊎ ((y ≡ me) × (k < length (N.log x)) × (input ≡ message_input x (broadcast_at (N.log x) k)))

module _ (n t : ℕ) (faulty : ℕ → ℕ → ℕ) (id : ℕ → ℕ) (N M : State) (S : NetStep n t faulty id N M) where
  -- what holds of the called base as it is left, and of the others as they were, holds of each base of M
  pub at_each_base : (Q : ℕ → View → List Message → Type 0) → Q S.me S.left (N.log S.me ++ S.says)
      → ((x : ℕ) → x ≢ S.me → Q x (N.base x) (N.log x))
      → (x : ℕ) → Q x (M.base x) (M.log x)
  at_each_base Q here other x = go (ℕ_discrete x S.me)
    where
      go : Dec (x ≡ S.me) → Q x (M.base x) (M.log x)
      go (yes e) = rw e (subst₂ (Q S.me) (sym S.base_here) (sym S.log_here) here)
      go (no e) = subst₂ (Q x) (sym (S.base_other x e)) (sym (S.log_other x e)) (other x e)

  pub base_grows : (x : ℕ) → Grows (N.base x) (M.base x)
  base_grows = at_each_base (λ x b log. Grows (N.base x) b) S.call.grows (λ x ne. grows_not (N.base x))

  pub log_grows : (x : ℕ) (m : Message) → Said m (N.log x) → Said m (M.log x)
  log_grows = at_each_base (λ x b log. (m : Message) → Said m (N.log x) → Said m log) (λ m h. Memᴰ.append_left S.says h) (λ x ne m h. h)

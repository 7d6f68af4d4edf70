-- "It has stopped once it has broadcast a Correct-Final; its state is then 2 or 3.": a base has a frame of kind 3 in its log exactly if it
-- has said a Correct-Final, which its record backs, and which a base of state 2 or 3 has said.
use Rattle.std.specs.Prelude.{ℕ, suc, ◌≤◌, ◌<◌, ◌≡◌, true, List}
use Rattle.std.proofs.Common.{sym, ◌∙◌, subst}
use Rattle.std.proofs.Math.Path.{ap}
use Rattle.limits.specs.Refusals.{NetSize}
use Rattle.frame.specs.Message.{correct_final}
use Rattle.protocol.specs.declared.Base.{Base}
use Rattle.protocol.specs.Net.{Net, says_correct, has_stopped}
use Rattle.protocol.specs.Agreement.Views.{Said}
use Rattle.protocol.proofs.Agreement.Observers.{view}
use Rattle.protocol.proofs.Agreement.Inner.{Group}
use Rattle.protocol.proofs.Agreement.Inner.Begins.{seen}
use Rattle.protocol.proofs.Agreement.Inner.Theorem.{GroupInvariant}
use Rattle.protocol.proofs.Agreement.Outer.Frames.{says_said, said_says}
use Rattle.protocol.proofs.Agreement.Outer.Follows.{Matches}

module _ {n t : ℕ} {faulty : ℕ → ℕ → ℕ} {id : ℕ → ℕ} {truth : List ℕ} {W : Net} {N : Group}
    (NS : NetSize n) (matches : Matches n W N) (I : GroupInvariant n t faulty id truth N) where
  pub stopped_said : (x : ℕ) → x < n → has_stopped W (suc x) ≡ true → (v : List ℕ) × Said (correct_final v) (N.log x)
  unfolding has_stopped
  stopped_said x l h = says_said n NS (N.log x) (λ m k. I.valid x m l k) (ap says_correct (sym (matches.log x l)) ∙ h)

  pub said_stopped : (x : ℕ) (v : List ℕ) → x < n → Said (correct_final v) (N.log x) → has_stopped W (suc x) ≡ true
  unfolding has_stopped
  said_stopped x v l h = ap says_correct (matches.log x l) ∙ said_says n NS (λ m k. I.valid x m l k) h

  pub state_stopped : (x : ℕ) → x < n → 2 ≤ (W.base (suc x)).state → has_stopped W (suc x) ≡ true
  unfolding seen view
  state_stopped x l h = said_stopped x _ l (I.invariant.stop_said x l (subst (λ (b : Base). 2 ≤ b.state) (matches.base x l) h))

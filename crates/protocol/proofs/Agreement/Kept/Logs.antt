-- A step keeps the ties between a base's record and its log, and between what is held on a good link and the log at its other end.
use Rattle.std.specs.Prelude.{ℕ, ◌≤◌, ◌<◌, ◌≡◌, ◌≢◌, ◌⊎◌, List, ◌++◌}
use Rattle.std.proofs.Common.{sym, subst, inl, inr, arith}
use mathlib.Core.List.Memᴰ
use Rattle.frame.specs.Message.{Message, announce, verify, correct_final, verify_final}
use Rattle.protocol.specs.Agreement.Views.{View, Said, ViewHolds}
use Rattle.protocol.specs.Agreement.Calls.{SoundView, Quiescent, Backed}
use Rattle.protocol.proofs.Agreement.Growth.{backed_grows}
use Rattle.protocol.specs.Agreement.Invariant.{State, Invariant}
use Rattle.protocol.proofs.Agreement.NetSteps.{NetStep, at_each_base, log_grows}

module _ (n t : ℕ) (faulty : ℕ → ℕ → ℕ) (id : ℕ → ℕ) (truth : List ℕ) (N M : State) (I : Invariant n t faulty id truth N)
    (S : NetStep n t faulty id N M) where
  abbrev me : ℕ
  me = S.me

  each : (Q : ℕ → View → List Message → Type 0) → Q me S.left (N.log me ++ S.says) → ((x : ℕ) → x ≢ me → Q x (N.base x) (N.log x))
      → (x : ℕ) → Q x (M.base x) (M.log x)
  each = at_each_base n t faulty id N M S

  -- in the log as it was, or among what is broadcast now
  old : {m : Message} → Said m (N.log me) → Said m (N.log me ++ S.says)
  old h = Memᴰ.append_left S.says h

  new : {m : Message} → Said m S.says → Said m (N.log me ++ S.says)
  new h = Memᴰ.append_right (N.log me) h

  -- ---- one base
  pub sound_kept : (x : ℕ) → x < n → SoundView n x (id x) (M.base x)
  sound_kept = each (λ x b log. x < n → SoundView n x (id x) b) (λ l. S.sound) (λ x ne l. I.sound x l)

  pub quiescent_kept : (x : ℕ) → x < n → Quiescent n t x (M.base x)
  quiescent_kept = each (λ x b log. x < n → Quiescent n t x b) (λ l. S.call.quiescent) (λ x ne l. I.quiescent x l)

  -- ---- its log
  pub backed_kept : (x : ℕ) (m : Message) → x < n → Said m (M.log x) → Backed n (id x) (M.base x) m
  backed_kept = each (λ x b log. (m : Message) → x < n → Said m log → Backed n (id x) b m)
      (λ m l h. elim (Memᴰ.append_cases (N.log me) h) [
        | inl k ↦ backed_grows n (N.base me) S.left S.call.grows (id me) m (I.backed me m l k)
        | inr k ↦ S.call.backed m k
      ])
      (λ x ne m l h. I.backed x m l h)

  pub start_said_kept : (x : ℕ) → x < n → 1 ≤ (M.base x).state → Said (announce (id x)) (M.log x)
  start_said_kept = each (λ x b log. x < n → 1 ≤ b.state → Said (announce (id x)) log)
      (λ l s. elim (S.call.start_said s) [ inl k ↦ old (I.start_said me l k) | inr k ↦ new k ])
      (λ x ne l s. I.start_said x l s)

  pub names_said_kept : (x y : ℕ) → x < n → y < n → 1 ≤ (M.base x).state → 1 ≤ (M.base x).named y
      → Said (verify ((M.base x).named y)) (M.log x)
  names_said_kept = each (λ x b log. (y : ℕ) → x < n → y < n → 1 ≤ b.state → 1 ≤ b.named y → Said (verify (b.named y)) log)
      (λ y l k s h. elim (S.call.names_said y k h) [
        | inl w ↦ subst (λ g. Said (verify g) (N.log me ++ S.says)) (sym w.1)
            (old (I.names_said me y l k w.0 (omega (arith, w.1))))
        | inr w ↦ new w
      ])
      (λ x ne y l k s h. I.names_said x y l k s h)

  pub vote_said_kept : (x : ℕ) → x < n → 1 ≤ (M.base x).sent → (v : List ℕ) × Said (verify_final v) (M.log x)
  vote_said_kept = each (λ x b log. x < n → 1 ≤ b.sent → (v : List ℕ) × Said (verify_final v) log)
      (λ l s. elim (S.call.vote_said s) [ inl k ↦ (let w = I.vote_said me l k in (w.0, old w.1)) | inr w ↦ (w.0, new w.1) ])
      (λ x ne l s. I.vote_said x l s)

  -- a second Verify-Final would be broadcast after one was sent
  pub vote_one_kept : (x : ℕ) (v u : List ℕ) → x < n → Said (verify_final v) (M.log x) → Said (verify_final u) (M.log x) → v ≡ u
  vote_one_kept = each (λ x b log. (v u : List ℕ) → x < n → Said (verify_final v) log → Said (verify_final u) log → v ≡ u)
      (λ v u l h k. go l (Memᴰ.append_cases (N.log me) h) (Memᴰ.append_cases (N.log me) k))
      (λ x ne v u l h k. I.vote_one x v u l h k)
    where
      twice : {v u : List ℕ} → me < n → Said (verify_final v) (N.log me) → Said (verify_final u) S.says → ⊥
      twice {v} {u} l a b = omega (arith, (I.backed me (verify_final v) l a).1, S.call.vote_first u b)

      go : {v u : List ℕ} → me < n → Said (verify_final v) (N.log me) ⊎ Said (verify_final v) S.says
          → Said (verify_final u) (N.log me) ⊎ Said (verify_final u) S.says → v ≡ u
      go {v} {u} l (inl a) (inl b) = I.vote_one me v u l a b
      go l (inl a) (inr b) = absurd (twice l a b)
      go l (inr a) (inl b) = absurd (twice l b a)
      go {v} {u} l (inr a) (inr b) = S.call.vote_one v u a b

  pub stop_said_kept : (x : ℕ) → x < n → 2 ≤ (M.base x).state → Said (correct_final (M.base x).final) (M.log x)
  stop_said_kept = each (λ x b log. x < n → 2 ≤ b.state → Said (correct_final b.final) log)
      (λ l s. elim (S.call.stop_said s) [
        | inl k ↦ subst (λ v. Said (correct_final v) (N.log me ++ S.says)) (sym (S.call.grows.stays k).1) (old (I.stop_said me l k))
        | inr k ↦ new k
      ])
      (λ x ne l s. I.stop_said x l s)

  -- ---- a good link: what is held after the step was in the log before it
  pub heard_before : (y x : ℕ) (m : Message) → y < n → x < n → x ≢ y → faulty x y ≡ 0 → ViewHolds (M.base y) x m → Said m (N.log x)
  heard_before = each (λ y b log. (x : ℕ) (m : Message) → y < n → x < n → x ≢ y → faulty x y ≡ 0 → ViewHolds b x m → Said m (N.log x))
      (λ x m ly lx ne good h. elim (S.call.heard x m ne h) [
        | inl k ↦ I.heard me x m ly lx ne good k
        | inr e ↦ S.source x m lx ne good e
      ])
      (λ y d x m ly lx ne good h. I.heard y x m ly lx ne good h)

  pub heard_kept : (y x : ℕ) (m : Message) → y < n → x < n → x ≢ y → faulty x y ≡ 0 → ViewHolds (M.base y) x m → Said m (M.log x)
  heard_kept y x m ly lx ne good h = log_grows n t faulty id N M S x m (heard_before y x m ly lx ne good h)

-- The net at rest: every base has been started, and every broadcast was handed over on every good link. What a running base then holds.
use Rattle.std.specs.Prelude.{ℕ, ◌≤◌, ◌<◌, ◌≡◌, ◌≢◌, ◌⊎◌, true, length}
use Rattle.std.proofs.Common.{sym, ap, ◌∙◌, subst, inl, inr, arith}
use mathlib.Core.List.Memᴰ
use mathlib.Core.List.{List, List-discrete}
use Rattle.std.proofs.Math.Decide.{ℕ_discrete}
use Rattle.lists.specs.Lists.{member}
use Rattle.counting.specs.Counts.{count_two}
use Rattle.counting.specs.Degrees.{degree}
use Rattle.frame.specs.Message.{Message, announce, verify, correct_final, verify_final}
use Rattle.protocol.proofs.Agreement.Cases.{zero_or_more, running_or_stopped}
use Rattle.protocol.specs.Agreement.Views.{Said, Certified, corrects, holds_of}
use Rattle.protocol.specs.Agreement.Growth.{Delivered}
use Rattle.protocol.specs.Agreement.Invariant.{Premises, State, Invariant, broadcast_at}
use Rattle.protocol.proofs.Agreement.Secondary.{correct_held, vote_held, voter_faulty}

pub record AtRest (n : ℕ) (faulty : ℕ → ℕ → ℕ) (N : State) : Type 0 where
  pub started : (x : ℕ) → x < n → 1 ≤ (N.base x).state
  pub handed_over : (x y k : ℕ) → x < n → y < n → x ≢ y → faulty x y ≡ 0 → k < length (N.log x) → N.handed x y k ≡ true

-- a message of a log has a number
numbered : {m : Message} {log : List Message} → Said m log → (k : ℕ) × (k < length log) × (broadcast_at log k ≡ m)
numbered (Memᴰ.head e) = (0, omega arith, sym e)
numbered (Memᴰ.tail {x} {xs} h) = let w = numbered h in (ℕ.suc w.0, omega (arith, w.1), w.2)

module _ (n t : ℕ) (faulty : ℕ → ℕ → ℕ) (id : ℕ → ℕ) (truth : List ℕ) (P : Premises n t faulty id truth) (N : State)
    (I : Invariant n t faulty id truth N) (R : AtRest n faulty N) where
  pub running_or_not : (x : ℕ) → x < n → ((N.base x).state ≡ 1) ⊎ (2 ≤ (N.base x).state)
  running_or_not x l = elim (running_or_stopped (N.base x).state) [ inl s ↦ inl (omega (arith, R.started x l)) | inr s ↦ inr s ]

  -- all that x has broadcast was delivered to a running y
  hears : (y x : ℕ) (m : Message) → y < n → x < n → x ≢ y → faulty x y ≡ 0 → (N.base y).state ≡ 1 → Said m (N.log x)
      → Delivered n (N.base y) x m
  hears y x m ly lx ne good runs said = let w = numbered said in
      subst (Delivered n (N.base y) x) w.2
      ((I.delivered x y w.0 lx ly ne good (R.handed_over x y w.0 lx ly ne good w.1)).1 (omega (arith, runs)))

  pub hears_name : (y x : ℕ) → y < n → x < n → x ≢ y → faulty x y ≡ 0 → (N.base y).state ≡ 1 → Certified n (N.base y) (id x)
  hears_name y x ly lx ne good runs =
      hears y x (announce (id x)) ly lx ne good runs (I.start_said x lx (R.started x lx)) (P.ids_above_zero x lx)

  pub hears_verify : (y x g : ℕ) → y < n → x < n → x ≢ y → faulty x y ≡ 0 → (N.base y).state ≡ 1 → 1 ≤ g → Certified n (N.base x) g
      → member g ((N.base y).verifies x) ≡ true
  hears_verify y x g ly lx ne good runs above w = hears y x (verify g) ly lx ne good runs
      (subst (λ k. Said (verify k) (N.log x)) (sym w.2) (I.names_said x w.0 lx w.1 (R.started x lx) (omega (arith, w.2))))

  -- ---- Correct-Finals of the truth
  running_apart : (y x : ℕ) → (N.base y).state ≡ 1 → 2 ≤ (N.base x).state → x ≢ y
  running_apart y x runs stopped e = omega (arith, ap (λ z. (N.base z).state) e)

  pub hears_correct : (y x : ℕ) → y < n → x < n → faulty x y ≡ 0 → (N.base y).state ≡ 1 → 2 ≤ (N.base x).state
      → (N.base y).correct x truth ≡ true
  hears_correct y x ly lx good runs stopped = hears y x (correct_final truth) ly lx (running_apart y x runs stopped) good runs
      (subst (λ v. Said (correct_final v) (N.log x)) (I.final_true x lx stopped) (I.stop_said x lx stopped))

  pub hears_two : (y a c : ℕ) → y < n → a < n → c < n → a ≢ c → faulty a y ≡ 0 → faulty c y ≡ 0 → (N.base y).state ≡ 1
      → 2 ≤ (N.base a).state → 2 ≤ (N.base c).state
      → 2 ≤ corrects n (N.base y) truth
  unfolding corrects
  hears_two y a c ly la lc ne good_a good_c runs stopped_a stopped_c =
      count_two n (λ x. (N.base y).correct x truth) a c la lc ne (hears_correct y a ly la good_a runs stopped_a)
      (hears_correct y c ly lc good_c runs stopped_c)

  -- ---- the truth on the good link from x to a running y: it is held; or x has two faulty links; or x runs and has sent no Verify-Final
  pub data HeardFrom (y x : ℕ) : Type 0 where
    tells_truth : holds_of (N.base y) truth x ≡ true → HeardFrom y x
    twice_faulty : 2 ≤ degree n faulty x → HeardFrom y x
    silent : (N.base x).state ≡ 1 → corrects n (N.base x) truth ≤ 1 → HeardFrom y x

  -- whoever sent a Verify-Final of another list has two faulty links, as nobody has decided that list
  false_voter : (x : ℕ) (v : List ℕ) → x < n → v ≢ truth → Said (verify_final v) (N.log x) → 2 ≤ degree n faulty x
  false_voter x v l ne said = voter_faulty n t faulty id truth P (λ x. N.base x)
      (λ x v. (2 ≤ (N.base x).state) × ((N.base x).final ≡ v)) (λ x v. Said (verify_final v) (N.log x))
      (λ x v l. (I.sound x l).own_correct v) (λ x v l. (I.sound x l).own_vote v)
      (λ y x v ly lx ne good h. I.backed x (correct_final v) lx (I.heard y x (correct_final v) ly lx ne good h))
      (λ y x v ly lx ne good h. I.heard y x (verify_final v) ly lx ne good h)
      (λ x v l h. (I.backed x (verify_final v) l h).0)
      v (λ z k h. ne (sym h.1 ∙ I.final_true z k h.0)) x l said

  pub tells : (y x : ℕ) → y < n → x < n → x ≢ y → faulty x y ≡ 0 → (N.base y).state ≡ 1 → HeardFrom y x
  tells y x ly lx ne good runs = elim (running_or_not x lx) [
    | inr stopped ↦ by_correct stopped
    | inl s ↦ running s (zero_or_more (N.base x).sent)
  ]
    where
      by_correct : 2 ≤ (N.base x).state → HeardFrom y x
      by_correct stopped = tells_truth (correct_held (N.base y) truth x (hears_correct y x ly lx good runs stopped))

      voted : (v : List ℕ) → Said (verify_final v) (N.log x) → Dec (v ≡ truth) → HeardFrom y x
      voted v said (no e) = twice_faulty (false_voter x v lx e said)
      voted v said (yes e) = elim (hears y x (verify_final v) ly lx ne good runs said) [
        | inl h ↦ tells_truth (vote_held (N.base y) truth x (rw e at h))
        | inr w ↦ by_correct (I.backed x (correct_final w.0) lx (I.heard y x (correct_final w.0) ly lx ne good w.1)).0
      ]

      running : (N.base x).state ≡ 1 → ((N.base x).sent ≡ 0) ⊎ (1 ≤ (N.base x).sent) → HeardFrom y x
      running s (inl unsent) = silent s ((I.quiescent x lx).has_voted truth s unsent)
      running s (inr sent) = let w = I.vote_said x lx sent in voted w.0 w.1 (List-discrete ℕ_discrete w.0 truth)

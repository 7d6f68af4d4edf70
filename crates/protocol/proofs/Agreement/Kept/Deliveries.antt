-- A step keeps deliveries: what arrives on a good link at a base that runs on is there afterwards. It is never discarded for good, since
-- what would discard it is the same message, and a good link's list is never too full for a Verify that is new to it.
use Rattle.std.specs.Prelude.{ℕ, ◌≤◌, ◌<◌, ◌≡◌, refl, ◌≢◌, true, false, List, length, get_or}
use Rattle.std.proofs.Math.Path.{sym}
use Rattle.std.proofs.Common.{ap, ◌∙◌, subst, inl, inr, le_trans, arith, length-append}
use Rattle.std.proofs.Math.ListN.{get_or-append}
use Rattle.lists.specs.Lists.{member}
use Rattle.lists.specs.Lists.Places.{member_at, distinct_places}
use Rattle.counting.specs.Pigeonhole.{Injective, Met, pigeonhole, pigeonhole_spare}
use Rattle.frame.specs.Message.{Message, announce, verify, correct_final, verify_final}
use Rattle.lists.specs.Choice.Laws.{clash}
use Rattle.protocol.proofs.Agreement.Cases.{true_or_false}
use Rattle.protocol.specs.Agreement.Views.{View, Said, ViewHolds, Certified}
use Rattle.protocol.specs.Agreement.Calls.{message_input, Taken}
use Rattle.protocol.specs.Agreement.Growth.{Delivered}
use Rattle.protocol.proofs.Agreement.Growth.{delivered_grows}
use Rattle.protocol.specs.Agreement.Invariant.{State, Invariant, broadcast_at}
use Rattle.protocol.proofs.Agreement.NetSteps.{NetStep, at_each_base, base_grows}

module _ (n t : ℕ) (faulty : ℕ → ℕ → ℕ) (id : ℕ → ℕ) (truth : List ℕ) (N M : State) (I : Invariant n t faulty id truth N)
    (S : NetStep n t faulty id N M) where
  abbrev me : ℕ
  me = S.me

  abbrev b : View
  b = N.base me

  abbrev c : View
  c = S.left

  -- ---- an arrival on the good link to x
  module _ (x : ℕ) (x_in : x < n) (apart : x ≢ me) (good : faulty x me ≡ 0) where
    hears : (m : Message) → ViewHolds b x m → Said m (N.log x)
    hears m h = I.heard me x m S.inside x_in apart good h

    -- what the link holds as Verify is different, and x has certified each of it: so it is at most n
    verify_at : ℕ → ℕ
    verify_at k = get_or (b.verifies x) k 0

    verifies_apart : Injective (length (b.verifies x)) verify_at
    unfolding verify_at
    verifies_apart u w lu lw e = distinct_places (b.verifies x) ((I.sound me S.inside).verifies_once x x_in) u w lu lw e

    verifies_certified : (k : ℕ) → k < length (b.verifies x) → Met n (N.base x).named (verify_at k)
    unfolding verify_at
    verifies_certified k l =
        (I.backed x (verify (get_or (b.verifies x) k 0)) x_in (hears (verify (get_or (b.verifies x) k 0)) (member_at (b.verifies x) k l))).1

    verifies_most : length (b.verifies x) ≤ n
    verifies_most = pigeonhole (length (b.verifies x)) n verify_at (N.base x).named verifies_apart verifies_certified

    -- and less than n while one of x's Verifies is missing
    verifies_room : (g : ℕ) → Said (verify g) (N.log x) → member g (b.verifies x) ≡ false → length (b.verifies x) < n
    unfolding verify_at
    verifies_room g said missing =
        let w : Certified n (N.base x) g = (I.backed x (verify g) x_in said).1 in
        pigeonhole_spare (length (b.verifies x)) n verify_at (N.base x).named verifies_apart verifies_certified w.0 w.1
        (λ k l e. clash (member_at (b.verifies x) k l) (ap (λ z. member z (b.verifies x)) (e ∙ sym w.2) ∙ missing))

    -- a name that is there is x's
    name_there : (g : ℕ) → Said (announce g) (N.log x) → 1 ≤ b.named x → Certified n c g
    name_there g said there =
        let mine : b.named x ≡ id x = I.backed x (announce (b.named x)) x_in (hears (announce (b.named x)) (there, refl)) in
        let said_it : g ≡ id x = I.backed x (announce g) x_in said in
        (x, x_in, said_it ∙ sym mine ∙ sym (S.call.grows.names x there))

    taken_delivered : (m : Message) → Said m (N.log x) → Taken n b c x m → Delivered n c x m
    taken_delivered (announce g) said (inl h) = λ above. h
    taken_delivered (announce g) said (inr (inl there)) = λ above. name_there g said there
    taken_delivered (announce g) said (inr (inr full)) = λ above. name_there g said (omega (arith, verifies_most))
    taken_delivered (verify g) said (inl h) = h
    taken_delivered (verify g) said (inr full) = elim (true_or_false (member g (b.verifies x))) [
      | inl e ↦ S.call.grows.verifies x g e
      | inr e ↦ absurd (omega (arith, verifies_room g said e))
    ]
    taken_delivered (correct_final v) said (inl h) = h
    taken_delivered (correct_final v) said (inr (u, held)) =
        let e : (N.base x).final ≡ u = (I.backed x (correct_final u) x_in (hears (correct_final u) held)).1 in
        let f : (N.base x).final ≡ v = (I.backed x (correct_final v) x_in said).1 in
        S.call.grows.corrects x v (subst (λ w. b.correct x w ≡ true) (sym e ∙ f) held)
    taken_delivered (verify_final v) said (inl h) = inl h
    taken_delivered (verify_final v) said (inr (inl (u, held))) = inr (u, S.call.grows.corrects x u held)
    taken_delivered (verify_final v) said (inr (inr (u, held))) =
        let e : u ≡ v = I.vote_one x u v x_in (hears (verify_final u) held) said in
        S.call.grows.votes x v (subst (λ w. b.vote x w ≡ true) e held)

    input_delivered : (m : Message) → S.input ≡ message_input x m → c.state ≤ 1 → Delivered n c x m
    input_delivered m e s = taken_delivered m (S.source x m x_in apart good e) (S.call.taken x m e s)

  -- ---- what was handed over before, and what is handed over now
  log_at : (x k : ℕ) → k < length (N.log x) → (k < length (M.log x)) × (broadcast_at (M.log x) k ≡ broadcast_at (N.log x) k)
  log_at = at_each_base n t faulty id N M S
      (λ x b log. (k : ℕ) → k < length (N.log x) → (k < length log) × (broadcast_at log k ≡ broadcast_at (N.log x) k))
      (λ k h. (omega (arith, length-append (N.log me) S.says), get_or-append (N.log me) S.says (announce 0) k h))
      (λ x ne k h. (h, refl))

  grows_delivered : (x y : ℕ) (m : Message) → Delivered n (N.base y) x m → Delivered n (M.base y) x m
  grows_delivered x y m h = delivered_grows n (N.base y) (M.base y) (base_grows n t faulty id N M S y) x m h

  delivered_now : (x y : ℕ) (m : Message) → x < n → x ≢ y → faulty x y ≡ 0 → y ≡ me → S.input ≡ message_input x m → (M.base y).state ≤ 1
      → Delivered n (M.base y) x m
  delivered_now x y m lx ne good e a =
      rw (e, S.base_here) (λ s. input_delivered x lx (λ p. ne (p ∙ sym e)) (subst (λ z. faulty x z ≡ 0) e good) m a s)

  pub delivered_kept : (x y k : ℕ) → x < n → y < n → x ≢ y → faulty x y ≡ 0 → M.handed x y k ≡ true
      → (k < length (M.log x)) × ((M.base y).state ≤ 1 → Delivered n (M.base y) x (broadcast_at (M.log x) k))
  delivered_kept x y k lx ly ne good h = elim (S.newly x y k h) [
    | inl o ↦ (let w = I.delivered x y k lx ly ne good o in
        up w.0 (λ s. grows_delivered x y (broadcast_at (N.log x) k) (w.1 (le_trans (base_grows n t faulty id N M S y).state s))))
    | inr o ↦ up o.1 (delivered_now x y (broadcast_at (N.log x) k) lx ne good o.0 o.2)
  ]
    where
      up : k < length (N.log x) → ((M.base y).state ≤ 1 → Delivered n (M.base y) x (broadcast_at (N.log x) k))
          → (k < length (M.log x)) × ((M.base y).state ≤ 1 → Delivered n (M.base y) x (broadcast_at (M.log x) k))
      up l f = let w = log_at x k l in (w.0, λ s. subst (Delivered n (M.base y) x) (sym w.1) (f s))

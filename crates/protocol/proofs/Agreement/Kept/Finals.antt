-- A step keeps the final lists true: a base that turns prime has certified the true identifiers and no others, and a base that turns
-- secondary takes a list that somebody decided before, which is the true one. So the first base to stop is a prime one.
use Rattle.std.specs.Prelude.{ℕ, ◌≤◌, ◌<◌, ◌≡◌, refl, ◌≢◌, ◌⊎◌, Bool, true, false}
use Rattle.std.proofs.Common.{sym, ◌∙◌, subst, inl, inr, arith}
use mathlib.Core.List.{List, List-discrete}
use Rattle.std.proofs.Math.Decide.{ℕ_discrete}
use Rattle.lists.specs.Lists.{member}
use Rattle.lists.specs.Lists.Order.{ascending_unique}
use Rattle.counting.specs.Search.{each_or_one}
use Rattle.counting.specs.Pigeonhole.{Injective, Met}
use Rattle.frame.specs.Message.{Message, announce, verify, correct_final, verify_final}
use Rattle.lists.specs.Choice.Laws.{clash}
use Rattle.protocol.proofs.Agreement.Cases.{running_or_stopped, prime_or_secondary}
use Rattle.protocol.specs.Agreement.Views.{View, Said, ViewHolds, Certified, tally_of, Prime, Secondary, Lists}
use Rattle.protocol.specs.Agreement.Calls.{Grows, SoundView, Stopping, before, as_prime, as_secondary}
use Rattle.protocol.proofs.Agreement.Growth.{certified_grows, corrects_grow}
use Rattle.protocol.proofs.Agreement.Prime.{names_true, truth_named}
use Rattle.protocol.proofs.Agreement.Secondary.{undecided_tally}
use Rattle.protocol.specs.Agreement.Invariant.{Premises, State, Invariant}
use Rattle.protocol.proofs.Agreement.NetSteps.{NetStep, at_each_base, base_grows}
use Rattle.protocol.proofs.Agreement.Kept.Logs.{sound_kept, heard_before}

-- two ascending lists of the same identifiers are one
pub lists_unique : (n : ℕ) (c id : ℕ → ℕ) (v u : List ℕ) → ((x : ℕ) → x < n → Met n id (c x)) → ((x : ℕ) → x < n → Met n c (id x))
    → Lists n c v → Lists n id u → v ≡ u
lists_unique n c id v u there back p q = ascending_unique v u p.ascends q.ascends (λ g. same g (member g v) (member g u) refl refl)
  where
    across : (c d : ℕ → ℕ) (v u : List ℕ) → Lists n c v → Lists n d u → ((x : ℕ) → x < n → Met n d (c x)) → (g : ℕ) → member g v ≡ true
        → member g u ≡ true
    across c d v u p q there g h =
        let w = p.only g h in
        let z = there w.0 w.1 in
        subst (λ k. member k u ≡ true) (sym (w.2 ∙ z.2)) (q.all z.0 z.1)

    same : (g : ℕ) (s t : Bool) → member g v ≡ s → member g u ≡ t → s ≡ t
    same g true true e f = refl
    same g true false e f = clash (across c id v u p q there g e) f
    same g false true e f = clash (across id c u v q p back g f) e
    same g false false e f = refl

module _ (n t : ℕ) (faulty : ℕ → ℕ → ℕ) (id : ℕ → ℕ) (truth : List ℕ) (P : Premises n t faulty id truth) (N M : State)
    (I : Invariant n t faulty id truth N) (S : NetStep n t faulty id N M) where
  abbrev me : ℕ
  me = S.me

  hears : (y x : ℕ) (m : Message) → y < n → x < n → x ≢ y → faulty x y ≡ 0 → ViewHolds (M.base y) x m → Said m (N.log x)
  hears = heard_before n t faulty id truth N M I S

  grows : (x : ℕ) → Grows (N.base x) (M.base x)
  grows = base_grows n t faulty id N M S

  -- ---- what good links tell, after the step
  heard_name : (y x : ℕ) → y < n → x < n → x ≢ y → faulty x y ≡ 0 → 1 ≤ (M.base y).named x → (M.base y).named x ≡ id x
  heard_name y x ly lx ne good h =
      I.backed x (announce ((M.base y).named x)) lx (hears y x (announce ((M.base y).named x)) ly lx ne good (h, refl))

  heard_verify : (y x g : ℕ) → y < n → x < n → x ≢ y → faulty x y ≡ 0 → member g ((M.base y).verifies x) ≡ true → Certified n (M.base x) g
  heard_verify y x g ly lx ne good h =
      let w = I.backed x (verify g) lx (hears y x (verify g) ly lx ne good h) in
      certified_grows n (N.base x) (M.base x) (grows x) g w.0 w.1

  sound : (x : ℕ) → x < n → SoundView n x (id x) (M.base x)
  sound = sound_kept n t faulty id truth N M I S

  -- ---- turning prime
  module _ (prime : Prime n t me (M.base me)) where
    apart : Injective n (M.base me).named
    apart x y lx ly e = (sound me S.inside).names_apart x y lx ly (prime.all_named x lx) e

    all_true : (x : ℕ) → x < n → Met n id ((M.base me).named x)
    all_true = names_true n t faulty id truth P (λ x. M.base x) (λ x l. (sound x l).own_named) heard_name heard_verify me S.inside
        prime.all_named apart prime.few_suspects

    true_all : (y : ℕ) → y < n → Certified n (M.base me) (id y)
    true_all = truth_named n t faulty id truth P (λ x. M.base x) (λ x l. (sound x l).own_named) heard_name heard_verify me S.inside
        prime.all_named apart prime.few_suspects

    prime_final : Lists n (M.base me).named (M.base me).final → (M.base me).final ≡ truth
    prime_final h = lists_unique n (M.base me).named id (M.base me).final truth all_true true_all h P.truth_lists

  -- ---- turning secondary
  -- a list that nobody had decided before the step has a tally of at most t after it
  low_tally : (v : List ℕ) → ((x : ℕ) → x < n → 2 ≤ (N.base x).state → (N.base x).final ≡ v → ⊥) → tally_of n (M.base me) v ≤ t
  low_tally v nobody = undecided_tally n t faulty id truth P (λ x. M.base x)
      (λ x v. (2 ≤ (N.base x).state) × ((N.base x).final ≡ v)) (λ x v. Said (verify_final v) (N.log x))
      (λ x v l. (sound x l).own_correct v) (λ x v l. (sound x l).own_vote v)
      (λ y x v ly lx ne good h. I.backed x (correct_final v) lx (hears y x (correct_final v) ly lx ne good h))
      (λ y x v ly lx ne good h. hears y x (verify_final v) ly lx ne good h)
      (λ x v l h. omega (arith, (I.backed x (verify_final v) l h).0, corrects_grow n (N.base x) (M.base x) (grows x) v))
      v (λ x l h. nobody x l h.0 h.1) me S.inside

  secondary_final : (v : List ℕ) → Secondary n t (M.base me) v → v ≡ truth
  secondary_final v h = elim (List-discrete ℕ_discrete v truth) [
    | yes e ↦ e
    | no e ↦ absurd (omega (arith, h.tally, low_tally v (λ x l s q. e (sym q ∙ I.final_true x l s))))
  ]

  secondary_after : (v : List ℕ) → Secondary n t (M.base me) v → (a : ℕ) × (a < n) × ((N.base a).state ≡ 2)
  secondary_after v h =
      elim (each_or_one n (λ x. (N.base x).state ≤ 1) (λ x. 2 ≤ (N.base x).state) (λ x l. running_or_stopped (N.base x).state)) [
        | inl none ↦ absurd (omega (arith, h.tally, low_tally v (λ x l s q. absurd (omega (arith, none x l)))))
        | inr w ↦ which w.0 w.1 (prime_or_secondary (N.base w.0).state w.2 (I.sound w.0 w.1).states)
      ]
    where
      which : (x : ℕ) → x < n → ((N.base x).state ≡ 2) ⊎ ((N.base x).state ≡ 3) → (a : ℕ) × (a < n) × ((N.base a).state ≡ 2)
      which x l (inl e) = (x, l, e)
      which x l (inr e) = I.prime_first x l e

  -- ---- the base that was called
  stopping : 2 ≤ (M.base me).state → Stopping n t me (N.base me) (M.base me)
  stopping = rw S.base_here S.call.stopping

  still_prime : (a : ℕ) × (a < n) × ((N.base a).state ≡ 2) → (a : ℕ) × (a < n) × ((M.base a).state ≡ 2)
  still_prime w = (w.0, w.1, ((grows w.0).stays (omega (arith, w.2))).0 ∙ w.2)

  final_here : 2 ≤ (M.base me).state → (M.base me).final ≡ truth
  final_here s = elim (stopping s) [
    | before k ↦ ((grows me).stays k).1 ∙ I.final_true me S.inside k
    | as_prime e p h ↦ prime_final p h
    | as_secondary e p ↦ secondary_final (M.base me).final p
  ]

  knows_here : (y : ℕ) → y < n → (M.base me).state ≡ 2 → Certified n (M.base me) (id y)
  knows_here y l s = elim (stopping (omega (arith, s))) [
    | before k ↦ certified_grows n (N.base me) (M.base me) (grows me) (id y) (P.ids_above_zero y l)
        (I.prime_knows me y S.inside l (sym ((grows me).stays k).0 ∙ s))
    | as_prime e p h ↦ true_all p y l
    | as_secondary e p ↦ absurd (omega (arith, s, e))
  ]

  first_here : (M.base me).state ≡ 3 → (a : ℕ) × (a < n) × ((M.base a).state ≡ 2)
  first_here s = elim (stopping (omega (arith, s))) [
    | before k ↦ still_prime (I.prime_first me S.inside (sym ((grows me).stays k).0 ∙ s))
    | as_prime e p h ↦ absurd (omega (arith, s, e))
    | as_secondary e p ↦ still_prime (secondary_after (M.base me).final p)
  ]

  -- ---- all bases
  everywhere : (Q : ℕ → View → Type 0) → Q me (M.base me) → ((x : ℕ) → x ≢ me → Q x (N.base x)) → (x : ℕ) → Q x (M.base x)
  everywhere Q here other = at_each_base n t faulty id N M S (λ x b log. Q x b) (subst (Q me) S.base_here here) other

  pub final_true_kept : (x : ℕ) → x < n → 2 ≤ (M.base x).state → (M.base x).final ≡ truth
  final_true_kept = everywhere (λ x b. x < n → 2 ≤ b.state → b.final ≡ truth) (λ l s. final_here s) (λ x ne l s. I.final_true x l s)

  pub prime_knows_kept : (x y : ℕ) → x < n → y < n → (M.base x).state ≡ 2 → Certified n (M.base x) (id y)
  prime_knows_kept = everywhere (λ x b. (y : ℕ) → x < n → y < n → b.state ≡ 2 → Certified n b (id y)) (λ y l k s. knows_here y k s)
      (λ x ne y l k s. I.prime_knows x y l k s)

  pub prime_first_kept : (x : ℕ) → x < n → (M.base x).state ≡ 3 → (a : ℕ) × (a < n) × ((M.base a).state ≡ 2)
  prime_first_kept = everywhere (λ x b. x < n → b.state ≡ 3 → (a : ℕ) × (a < n) × ((M.base a).state ≡ 2)) (λ l s. first_here s)
      (λ x ne l s. still_prime (I.prime_first x l s))

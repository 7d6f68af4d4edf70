-- The net at rest: an untouched base, one with good links alone, has stopped. If nobody is secondary, every base has certified whoever it
-- has a good link to, so what the untouched base misses is accounted for by faulty links, and it passes the prime check. Else a prime and a
-- secondary base have stopped, and it passes the secondary check.
use Rattle.std.specs.Prelude.{ℕ, ◌+◌, ◌≤◌, ◌<◌, ◌≡◌, refl, ◌≢◌, Bool, true, not, List}
use Rattle.std.proofs.Common.{sym, ap, ◌∙◌, inl, inr, arith}
use Rattle.std.proofs.Math.Bool.{false}
use Rattle.std.proofs.Math.Decide.{ℕ_discrete}
use borrow.Author.Tests.{eq-eqb, ne_eqb}
use Rattle.std.proofs.Math.Dec.{eqb}
use Rattle.lists.specs.Choice.{or}
use Rattle.lists.specs.Choice.Laws.{or_first, or_second, or_neither, clash}
use Rattle.lists.specs.Lists.{member}
use Rattle.counting.specs.Sums.{bit}
use Rattle.counting.specs.Sums.Laws.{sum_term}
use Rattle.counting.specs.Search.{met_or_not}
use Rattle.counting.specs.Counts.{bit_yes}
use Rattle.counting.specs.Degrees.{degree, total_mono, pairs_twice, rows_covered}
use Rattle.counting.specs.Spread.{TouchedBy}
use Rattle.frame.specs.Message.{announce}
use Rattle.protocol.proofs.Agreement.Cases.{zero_or_more, prime_or_secondary}
use Rattle.protocol.specs.Agreement.Views.{Certified, corrects, holds_of, lacks, suspect, Prime}
use Rattle.protocol.proofs.Agreement.Suspects.{lacks_own, lacks_other, suspect_self}
use Rattle.protocol.proofs.Agreement.Suspects.{suspect_symmetric, suspect_at_most_one, suspect_neither}
use Rattle.protocol.specs.Agreement.Invariant.{Premises, State, Invariant}
use Rattle.protocol.proofs.Agreement.Secondary.{correct_held}
use Rattle.protocol.proofs.Agreement.Liveness.Hears.{AtRest, running_or_not, hears_name, hears_verify, hears_correct, hears_two}
use Rattle.protocol.proofs.Agreement.Liveness.Hears.{HeardFrom, tells_truth, twice_faulty, silent, tells}
use Rattle.protocol.proofs.Agreement.Liveness.Tally.{tally_enough}

module _ (n t : ℕ) (faulty : ℕ → ℕ → ℕ) (id : ℕ → ℕ) (truth : List ℕ) (P : Premises n t faulty id truth) (N : State)
    (I : Invariant n t faulty id truth N) (R : AtRest n faulty N) where
  -- an untouched base p that still runs
  module _ (p : ℕ) (p_in : p < n) (untouched : degree n faulty p ≡ 0) (runs : (N.base p).state ≡ 1) where
    good : (x : ℕ) → x < n → faulty x p ≡ 0
    good x l = omega (arith, sum_term n (faulty p) x l, P.symmetric x p)

    -- ---- nobody is secondary
    -- p has the true identifier for each base
    names : (x : ℕ) → x < n → (N.base p).named x ≡ id x
    names x l = elim (ℕ_discrete x p) [
      | yes e ↦ ap (N.base p).named e ∙ own_name ∙ ap id (sym e)
      | no e ↦ where_named e (hears_name n t faulty id truth P N I R p x p_in l e (good x l) runs)
    ]
      where
        own_name : (N.base p).named p ≡ id p
        own_name = (I.sound p p_in).own_named

        heard_name : (z : ℕ) → z < n → z ≢ p → 1 ≤ (N.base p).named z → (N.base p).named z ≡ id z
        heard_name z lz ne above = I.backed z (announce ((N.base p).named z)) lz
            (I.heard p z (announce ((N.base p).named z)) p_in lz ne (good z lz) (above, refl))

        where_named : x ≢ p → Certified n (N.base p) (id x) → (N.base p).named x ≡ id x
        where_named ne w = elim (ℕ_discrete w.0 p) [
          | yes e ↦ absurd (ne (P.ids_apart x p l p_in (w.2 ∙ ap (N.base p).named e ∙ own_name)))
          | no e ↦ (let h = heard_name w.0 w.1 e (omega (arith, w.2, P.ids_above_zero x l)) in
              let q : x ≡ w.0 = P.ids_apart x w.0 l w.1 (w.2 ∙ h) in ap (N.base p).named q ∙ h ∙ ap id (sym q))
        ]

    module _ (no_secondary : (x : ℕ) → x < n → (N.base x).state ≢ 3) where
      -- over a good link each base has certified the other
      knows : (x z : ℕ) → x < n → z < n → faulty x z ≡ 0 → Certified n (N.base x) (id z)
      knows x z lx lz g = elim (ℕ_discrete z x) [
        | yes e ↦ (x, lx, ap id e ∙ sym (I.sound x lx).own_named)
        | no e ↦ elim (running_or_not n t faulty id truth P N I R x lx) [
          | inl s ↦ hears_name n t faulty id truth P N I R x z lx lz e (P.symmetric z x ∙ g) s
          | inr s ↦ elim (prime_or_secondary (N.base x).state s (I.sound x lx).states) [
            | inl q ↦ I.prime_knows x z lx lz q
            | inr q ↦ absurd (no_secondary x lx q)
          ]
        ]
      ]

      -- and p holds its Verify of it
      verify_held : (x z : ℕ) → x < n → z < n → x ≢ p → faulty x z ≡ 0 → member ((N.base p).named z) ((N.base p).verifies x) ≡ true
      verify_held x z lx lz ne g = rw (names z lz)
          (hears_verify n t faulty id truth P N I R p x (id z) p_in lx ne (good x lx) runs (P.ids_above_zero z lz) (knows x z lx lz g))

      held_or_faulty : (x z : ℕ) → x < n → z < n → x ≢ p → 1 ≤ bit (member ((N.base p).named z) ((N.base p).verifies x)) + faulty x z
      held_or_faulty x z lx lz ne = elim (zero_or_more (faulty x z)) [
        | inr f ↦ omega arith
        | inl g ↦ omega (arith, bit_yes (verify_held x z lx lz ne g))
      ]

      lacks_nothing : (x z : ℕ) → x < n → z < n → faulty x z ≡ 0 → lacks p (N.base p) x z ≡ false
      lacks_nothing x z lx lz g = elim (ℕ_discrete x p) [
        | yes e ↦ lacks_own p (N.base p) x z e
        | no e ↦ lacks_other p (N.base p) x z e ∙ ap not (verify_held x z lx lz e g)
      ]

      -- a suspect pair has a faulty link
      suspect_faulty : (x z : ℕ) → x < n → z < n → suspect p (N.base p) x z ≤ faulty x z
      suspect_faulty x z lx lz = elim (zero_or_more (faulty x z)) [
        | inr f ↦ omega (arith, suspect_at_most_one p (N.base p) x z)
        | inl g ↦ omega (
          arith,
          suspect_neither p (N.base p) x z (lacks_nothing x z lx lz g) (lacks_nothing z x lz lx (P.symmetric z x ∙ g)),
        )
      ]

      passes_prime : Prime n t p (N.base p)
      passes_prime = record {
        all_named = λ x l. omega (arith, names x l, P.ids_above_zero x l);
        tallies = omega (
          arith,
          P.few_faulty,
          rows_covered n faulty (λ x y. bit (member ((N.base p).named y) ((N.base p).verifies x))) p p_in held_or_faulty,
        );
        few_suspects = omega (
          arith,
          P.few_faulty,
          pairs_twice n (suspect p (N.base p)) (suspect_symmetric p (N.base p)) (suspect_self p (N.base p)),
          total_mono n (suspect p (N.base p)) faulty suspect_faulty,
        );
      }

      not_running : ⊥
      not_running = (I.quiescent p p_in).not_prime runs passes_prime

    -- ---- two bases a and c have stopped
    module _ (a c : ℕ) (a_in : a < n) (c_in : c < n) (a_not_c : a ≢ c) (a_stopped : 2 ≤ (N.base a).state)
        (c_stopped : 2 ≤ (N.base c).state) where
      set : ℕ → Bool
      set x = or (eqb a x) (eqb c x)

      in_set : (set a ≡ true) × (set c ≡ true)
      unfolding set
      in_set = (or_first (eqb c a) (eq-eqb a a refl), or_second (eqb a c) (eq-eqb c c refl))

      -- a base whose truth p does not hold is not one of the two, and has two faulty links or a faulty link to one of the two
      missed : (x : ℕ) → x < n → x ≢ p → holds_of (N.base p) truth x ≡ false → (set x ≡ false) × TouchedBy n faulty set x
      unfolding set
      missed x l ne none = (
        or_neither (away a a_in a_stopped) (away c c_in c_stopped),
        reached (tells n t faulty id truth P N I R p x p_in l ne (good x l) runs),
      )
        where
          away : (s : ℕ) → s < n → 2 ≤ (N.base s).state → eqb s x ≡ false
          away s ls stopped =
              let held = hears_correct n t faulty id truth P N I R p s p_in ls (good s ls) runs stopped in
              ne_eqb s x (λ e. clash (correct_held (N.base p) truth x (rw e at held)) none)

          -- one that runs and has sent no Verify-Final does not hold both Correct-Finals
          cut_off : (N.base x).state ≡ 1 → corrects n (N.base x) truth ≤ 1 → TouchedBy n faulty set x
          cut_off s few = elim (zero_or_more (faulty x a)) [
            | inr f ↦ inr (a, a_in, in_set.0, f)
            | inl ga ↦ elim (zero_or_more (faulty x c)) [
              | inr f ↦ inr (c, c_in, in_set.1, f)
              | inl gc ↦ absurd (omega (
                arith,
                hears_two n t faulty id truth P N I R x a c l a_in c_in a_not_c (P.symmetric a x ∙ ga)
                    (P.symmetric c x ∙ gc) s a_stopped c_stopped,
              ))
            ]
          ]

          reached : HeardFrom n t faulty id truth P N I R p x → TouchedBy n faulty set x
          reached (tells_truth h) = clash h none
          reached (twice_faulty h) = inl h
          reached (silent s few) = cut_off s few

      not_running_after : ⊥
      not_running_after = (I.quiescent p p_in).not_secondary truth runs (record {
        tally = tally_enough n t faulty id truth P (N.base p) p set missed;
        two = hears_two n t faulty id truth P N I R p a c p_in a_in c_in a_not_c (good a a_in) (good c c_in) runs a_stopped c_stopped;
      })

    untouched_not_running : ⊥
    untouched_not_running = elim (met_or_not n (λ x. (N.base x).state) 3) [
      | inl none ↦ not_running none
      | inr w ↦ (let a = I.prime_first w.0 w.1 w.2 in
          not_running_after a.0 w.0 a.1 w.1 (λ e. states_differ a.0 w.0 e a.2 w.2) (omega (arith, a.2))
          (omega (arith, w.2)))
    ]
      where
        states_differ : (a c : ℕ) → a ≡ c → (N.base a).state ≡ 2 → (N.base c).state ≡ 3 → ⊥
        states_differ a c e q r = omega (arith, ap (λ z. (N.base z).state) e)

  pub untouched_stopped : (p : ℕ) → p < n → degree n faulty p ≡ 0 → 2 ≤ (N.base p).state
  untouched_stopped p l none = elim (running_or_not n t faulty id truth P N I R p l) [
    | inl s ↦ absurd (untouched_not_running p l none s)
    | inr s ↦ s
  ]

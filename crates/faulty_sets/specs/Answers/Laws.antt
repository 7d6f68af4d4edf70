-- The numbers and the answers, as the checks that led there give them; and what a net is that is not turned down.
use Rattle.std.specs.Prelude.{ℕ, suc, ◌-◌, ◌≤◌, ◌<◌, ◌≡◌, ◌≢◌, List, [], ◌∷◌, eqb, ltb, length}
use Rattle.std.proofs.Math.Path.{refl, sym, ap}
use Rattle.std.proofs.Common.{◌∙◌, arith, eq-eqb, ne_eqb, eqb-true, lt-ltb, le-ltb, ltb-false}
use Rattle.std.proofs.lemmas.Bool.{eqb-false}
use Rattle.lists.specs.Choice.{choose}
use Rattle.lists.specs.Choice.Laws.{choose_ind, chosen_yes, chosen_no, first_none, first_given, first_passed, passed}
use Rattle.limits.specs.Limits.{small_bases}
use Rattle.limits.specs.Refusals.{size_refusal}
use Rattle.limits.specs.Refusals.Laws.{size_passed}
use Rattle.link_sets.specs.declared.LinkPair.{LinkPair}
use Rattle.link_sets.specs.Sets.{faulty_sets, faulty_set_at}
use Rattle.link_sets.specs.Count.{pair_count, set_count}
use Rattle.link_sets.proofs.Count.Laws.{below_mono}
use Rattle.link_sets.proofs.Theorem.{sets_many, each_once, some_set}
use Rattle.faulty_sets.specs.declared.FaultyCount.TheVariants as counted
use Rattle.faulty_sets.specs.declared.FaultySet.{FaultySet}
use Rattle.faulty_sets.specs.declared.FaultySet.TheVariants.{Refused}
use Rattle.faulty_sets.specs.Answers.{small_refusal, set_refusal, count_answer, links_answer, answered_links, set_answer}
use Rattle.faulty_sets.specs.Small.{small_faulty, small_pairs}
use Rattle.faulty_sets.specs.Small.Laws.{pairs_few}

-- ---- a net that is not turned down
pub record SmallNet (n t : ℕ) : Type 0 where
  pub some : 1 ≤ n
  pub most : n ≤ small_bases
  pub few : t ≤ small_faulty

pub small_passed : (n t : ℕ) → small_refusal n t ≡ 0 → SmallNet n t
unfolding small_refusal
small_passed n t e =
    let p = first_passed (size_refusal n t) (choose (ltb small_bases n) 19 0) e in
    let size = size_passed n t p.0 in
    let most = ltb-false small_bases n (passed (ltb small_bases n) 18 0 p.1).0 in
    record { some = omega (arith, size.0.least); most = most; few = omega (arith, size.1, most) }

pub set_passed : (n t number : ℕ) → set_refusal n t number ≡ 0 → (small_refusal n t ≡ 0) × (number < length (faulty_sets n t))
unfolding set_refusal
set_passed n t number e =
    let last = length (faulty_sets n t) - 1 in
    let p = first_passed (small_refusal n t) (choose (ltb last number) 20 0) e in
    (p.0, omega (arith, ltb-false last number (passed (ltb last number) 19 0 p.1).0, some_set n t))

-- ---- how many there are
module _ (n t : ℕ) {r : ℕ} (e : r ≡ small_refusal n t) where
  pub count_refused : r ≢ 0 → counted.Refused r ≡ count_answer n t
  unfolding count_answer
  count_refused h = chosen_no _ (ne_eqb _ 0 (λ z. h (e ∙ z))) (ap counted.Refused e)

  pub count_given : r ≡ 0 → {c : ℕ} → c ≡ length (faulty_sets n t) → counted.Sets c ≡ count_answer n t
  unfolding count_answer
  count_given h f = chosen_yes _ (eq-eqb _ 0 (sym e ∙ h)) (ap counted.Sets f)

  -- ---- the number of a set
  pub number_before : r ≢ 0 → (number : ℕ) → r ≡ set_refusal n t number
  unfolding set_refusal
  number_before h number = e ∙ sym (first_given _ (λ z. h (e ∙ z)))

  module _ (h : r ≡ 0) {c : ℕ} (f : c ≡ length (faulty_sets n t)) (number : ℕ) where
    pub number_past : c - 1 < number → 20 ≡ set_refusal n t number
    unfolding set_refusal
    number_past g = chosen_yes _ (lt-ltb _ number (omega (arith, f))) refl ∙ sym (first_none _ (sym e ∙ h))

    pub number_there : number ≤ c - 1 → 0 ≡ set_refusal n t number
    unfolding set_refusal
    number_there g = chosen_no _ (le-ltb _ number (omega (arith, f))) refl ∙ sym (first_none _ (sym e ∙ h))

-- ---- what the count tells
pub sets_told : (n t : ℕ) {c : ℕ} → counted.Sets c ≡ count_answer n t → (small_refusal n t ≡ 0) × (c ≡ length (faulty_sets n t))
unfolding count_answer
sets_told n t {c} = choose_ind (λ a. counted.Sets c ≡ a
    → (small_refusal n t ≡ 0) × (c ≡ length (faulty_sets n t))) (eqb (small_refusal n t) 0)
    (λ p e. (eqb-true _ 0 p, cc)) (λ p e. absurd (let z : ◌≡◌ {A = ℕ} 0 1 = cc in omega arith))

pub refused_told : (n t : ℕ) {r : ℕ} → counted.Refused r ≡ count_answer n t → (r ≡ small_refusal n t) × (small_refusal n t ≢ 0)
unfolding count_answer
refused_told n t {r} = choose_ind (λ a. counted.Refused r ≡ a
    → (r ≡ small_refusal n t) × (small_refusal n t ≢ 0)) (eqb (small_refusal n t) 0)
    (λ p e. absurd (let z : ◌≡◌ {A = ℕ} 0 1 = cc in omega arith)) (λ p e. (cc, eqb-false _ 0 p))

-- ---- the set of a number
module _ (n t number : ℕ) {r : ℕ} (e : r ≡ set_refusal n t number) where
  pub set_refused : r ≢ 0 → Refused r ≡ set_answer n t number
  unfolding set_answer
  set_refused h = chosen_no _ (ne_eqb _ 0 (λ z. h (e ∙ z))) (ap Refused e)

  pub set_given : r ≡ 0 → {a : FaultySet} {s : List LinkPair} → a ≡ links_answer s → s ≡ faulty_set_at n t number
      → a ≡ set_answer n t number
  unfolding set_answer
  set_given h f g = chosen_yes _ (eq-eqb _ 0 (sym e ∙ h)) (f ∙ ap links_answer g)

-- ---- the answer holds the whole set
links_answered : (s : List LinkPair) → length s ≤ small_faulty → answered_links (links_answer s) ≡ s
unfolding answered_links links_answer
links_answered [] h = refl
links_answered (p ∷ []) h = refl
links_answered (p ∷ (q ∷ [])) h = refl
links_answered (p ∷ (q ∷ (r ∷ s))) h = absurd (omega arith)

pub set_answered : (n t number : ℕ) → small_refusal n t ≡ 0 → number < length (faulty_sets n t)
    → answered_links (set_answer n t number) ≡ faulty_set_at n t number
set_answered n t number e h =
    let S = (each_once n t).sets number h in
    ap answered_links (sym (set_given n t number refl (sym (number_there n t (sym e) refl refl number (omega arith))) refl refl))
    ∙ links_answered (faulty_set_at n t number) (omega (arith, S.few, (small_passed n t e).few))

-- no small net has more sets than the largest
pub sets_few : (n t : ℕ) → small_refusal n t ≡ 0 → length (faulty_sets n t) ≤ set_count small_bases small_faulty
unfolding set_count
sets_few n t e =
    let S = small_passed n t e in
    let sizes : suc t ≤ suc small_faulty = omega (arith, S.few) in
    omega (arith, sets_many n t, below_mono (pair_count n) small_pairs (suc t) (suc small_faulty) (pairs_few n S.most) sizes)

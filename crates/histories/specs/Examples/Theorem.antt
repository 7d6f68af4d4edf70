-- The two examples, computed: what the statement asks for is given, every base has been
-- started and nothing waits. So, by the statement, every base has stopped.
use Rattle.std.specs.Prelude.{ℕ, zero, suc, ◌^◌, ◌≤◌, ◌<◌, ◌≡◌, refl, ◌≢◌, true, List, [], ◌∷◌}
use Rattle.std.proofs.Common.{sym, arith}
use Rattle.std.proofs.Math.Decide.{dec_lt}
use borrow.Author.Tests.{ltb-true, leb-true, eqb-true, eqb-false, not-true}
use Rattle.lists.specs.Choice.Laws.{and_true}
use Rattle.lists.specs.Lists.{Below}
use Rattle.counting.specs.Sums.Laws.{all_at}
use Rattle.protocol.proofs.Computed.{computed}
use Rattle.protocol.specs.Net.{Pair, Event, starts, carry, forge, has_stopped}
use Rattle.protocol.specs.Agreement.{BaseOf, Setting, Proper, AllProper}
use Rattle.protocol.specs.Agreement.Premise.{idle_net}
use Rattle.protocol.proofs.Agreement.Premise.{idle_fresh}
use Rattle.protocol.proofs.Agreement.Theorem.{agreement}
use Rattle.protocol.proofs.Agreement.Outer.Beginning.{each_base}
use Rattle.histories.specs.Examples.{Example, starts_at, carries, worked_example, faulty_link_example}
use Rattle.histories.specs.Examples.{base_test, bases_test, bytes_test, proper_test, all_proper_test}
use Rattle.histories.specs.Examples.{identifier_test, identifiers_test, setting_test, given_test}
use Rattle.histories.specs.Examples.{example_begins, example_ends, at_rest, end_states}

-- ---- the tests, as the statement puts them
base_tested : (n b : ℕ) → base_test n b ≡ true → BaseOf n b
unfolding base_test
base_tested n b e = let p = and_true _ _ e in record { least = leb-true 1 b p.0; most = leb-true b n p.1 }

bases_tested : (n a b : ℕ) → bases_test n a b ≡ true → BaseOf n a × BaseOf n b × (a ≢ b)
unfolding bases_test
bases_tested n a b e =
    let p = and_true _ _ e in
    let q = and_true _ _ p.1 in
    (base_tested n a p.0, base_tested n b q.0, eqb-false a b (not-true _ q.1))

bytes_tested : (l : List ℕ) → bytes_test l ≡ true → Below 256 l
unfolding bytes_test
bytes_tested [] e i = omega arith
bytes_tested (x ∷ l) e zero = ltb-true x 256 (and_true _ _ e).0
bytes_tested (x ∷ l) e (suc i) = bytes_tested l (and_true _ _ e).1 i

proper_tested : (n : ℕ) (e : Event) → proper_test n e ≡ true → Proper n e
unfolding proper_test
proper_tested n (starts b room) h = base_tested n b h
proper_tested n (carry a b k room) h = bases_tested n a b h
proper_tested n (forge a b bytes room) h =
    let p = and_true _ _ h in
    let q = bases_tested n a b p.0 in
    (q.0, q.1, q.2, bytes_tested bytes p.1)

all_proper_tested : (n : ℕ) (es : List Event) → all_proper_test n es ≡ true → AllProper n es
unfolding all_proper_test
all_proper_tested n [] h = tt
all_proper_tested n (e ∷ es) h = let p = and_true _ _ h in (proper_tested n e p.0, all_proper_tested n es p.1)

setting_tested : (n t : ℕ) (faulty : List Pair) → setting_test n t faulty ≡ true → Setting n t faulty
unfolding setting_test
setting_tested n t faulty e =
    let p = and_true _ _ e in
    let q = and_true _ _ p.0 in
    let r = and_true _ _ p.1 in
    record {
      size = record { least = leb-true _ _ q.0; most = leb-true _ _ q.1 };
      limit = leb-true _ _ r.0;
      few_faulty = leb-true _ _ r.1;
    }

module _ (n : ℕ) (id : ℕ → ℕ) (e : identifiers_test n id ≡ true) where
  identifier_tested : (b : ℕ) → BaseOf n b → (1 ≤ id b) × (id b < 2 ^ 32)
  unfolding identifiers_test identifier_test
  identifier_tested = each_base n (λ b. (1 ≤ id b) × (id b < 2 ^ 32)) (λ x l.
      let p = and_true _ _ (and_true _ _ (all_at n _ e x l)).0 in
      (leb-true _ _ p.0, ltb-true _ _ p.1))

  apart : (x y : ℕ) → x < n → y < x → id (suc x) ≢ id (suc y)
  unfolding identifiers_test
  apart x y l h = eqb-false _ _ (not-true _ (all_at x _ (and_true _ _ (all_at n _ e x l)).1 y h))

  different_tested : (a b : ℕ) → BaseOf n a → BaseOf n b → id a ≡ id b → a ≡ b
  different_tested zero b A B h = absurd (omega (arith, A.least))
  different_tested (suc x) zero A B h = absurd (omega (arith, B.least))
  different_tested (suc x) (suc y) A B h = elim (dec_lt y x) [
    | yes l ↦ absurd (apart x y A.most l h)
    | no l ↦ elim (dec_lt x y) [ yes k ↦ absurd (apart y x B.most k (sym h)) | no k ↦ omega (arith, l, k) ]
  ]

-- ---- an example that is given and at rest
module _ (x : Example) (given : given_test x ≡ true) (rests : at_rest x ≡ true) where
  pub example_stops : (b : ℕ) → BaseOf x.n b → has_stopped (example_ends x) b ≡ true
  unfolding given_test example_begins example_ends at_rest
  example_stops =
      let p = and_true _ _ given in
      let q = and_true _ _ p.1 in
      let r = and_true _ _ rests in
      let S = setting_tested x.n x.t x.faulty p.0 in
      let F = idle_fresh x.n x.t x.id S.size S.limit
      (identifier_tested x.n x.id q.0) (different_tested x.n x.id q.0) in
      (agreement x.n x.t x.faulty (example_begins x) x.events S F (all_proper_tested x.n x.events q.1)).ends
      (each_base x.n _ (λ b l. all_at x.n _ r.0 b l))
      (eqb-true _ 0 r.1)

-- ---- the two examples
opened : Unit {0}
unfolding
    computed carries starts_at idle_net
    base_test bases_test bytes_test proper_test all_proper_test identifier_test identifiers_test setting_test given_test
    example_begins example_ends at_rest end_states
opened = tt

worked_example_lem : (given_test worked_example ≡ true) × (at_rest worked_example ≡ true)
unfolding opened worked_example
worked_example_lem = (refl, refl)

pub worked_example_states : end_states worked_example (1 ∷ 2 ∷ []) ≡ 2 ∷ 2 ∷ []
unfolding opened worked_example
worked_example_states = refl

pub worked_example_stops : (b : ℕ) → BaseOf 2 b → has_stopped (example_ends worked_example) b ≡ true
unfolding worked_example
worked_example_stops = example_stops worked_example worked_example_lem.0 worked_example_lem.1

faulty_link_example_lem : (given_test faulty_link_example ≡ true) × (at_rest faulty_link_example ≡ true)
unfolding opened faulty_link_example
faulty_link_example_lem = (refl, refl)

pub faulty_link_example_states : end_states faulty_link_example (1 ∷ 2 ∷ 3 ∷ 4 ∷ []) ≡ 3 ∷ 3 ∷ 2 ∷ 2 ∷ []
unfolding opened faulty_link_example
faulty_link_example_states = refl

pub faulty_link_example_stops : (b : ℕ) → BaseOf 4 b → has_stopped (example_ends faulty_link_example) b ≡ true
unfolding faulty_link_example
faulty_link_example_stops = example_stops faulty_link_example faulty_link_example_lem.0 faulty_link_example_lem.1

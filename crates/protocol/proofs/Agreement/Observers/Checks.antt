-- The prime check and the secondary check hold of a record exactly if they hold of its view:
-- the tallies' sum and the suspect pairs, counted over links, are those counted over bases.
use Prim.Native.Nat.{ℕ, ◌+◌, ◌*◌, ◌-◌, ◌≤◌, ◌<◌}
use Rattle.std.specs.Prelude.{◌≡◌, ◌≢◌, Bool, true, List, eqb, leb, length}
use Rattle.std.proofs.Math.Path.{refl, sym, ap, ap₂, subst}
use Rattle.std.proofs.Common.{◌∙◌}
use Rattle.std.proofs.Math.Bool.{false, not}
use native.Mathlib.Omega.{arith}
use borrow.Author.Tests.{leb-true, le-leb, eqb-true, eq-eqb}
use Rattle.lists.specs.Choice.{and, or}
use Rattle.lists.specs.Choice.Laws.{and_true, and_both}
use Rattle.lists.specs.Lists.{member, distinct, sort}
use Rattle.lists.specs.Lists.Sorted.{member_sort, ascending_sort}
use Rattle.counting.specs.Sums.{bit, sum, pairs}
use Rattle.counting.specs.Sums.Laws.{sum_cong, sum_add, sum_swap, sum_same}
use Rattle.counting.specs.Counts.{count}
use Rattle.counting.specs.Degrees.{total}
use Rattle.counting.specs.Gap.{skip, pairs_skip}
use Rattle.protocol.specs.declared.Link.{Link}
use Rattle.protocol.specs.declared.Base.{Base}
use Rattle.protocol.specs.Links.{announces, verifies_of, holds_verify}
use Rattle.protocol.specs.Record.{link_at, link_count, links, certified, tally, tally_sum}
use Rattle.protocol.specs.Record.{suspect_pair, suspect_own, suspects, list_tally, correct_count}
use Rattle.protocol.proofs.Record.Laws.{link_count_lem}
use Rattle.protocol.specs.Steps.{prime_holds, secondary_holds}
use Rattle.protocol.specs.Agreement.Views.{View, lacks, suspect, Prime, Secondary, Lists}
use Rattle.protocol.proofs.Agreement.Suspects.{lacks_own, lacks_other, suspect_self, suspect_symmetric, suspect_apart}
use Rattle.protocol.proofs.Agreement.Observers.{place_of, view}
use Rattle.protocol.proofs.Agreement.Observers.Places.{place_skip, skip_other, link_skip}
use Rattle.protocol.proofs.Agreement.Observers.Counts.{Inside, net_size, links_seen, corrects_seen, tally_seen}
use Rattle.protocol.proofs.Agreement.Observers.Names.{named_own, named_skip, named_certified, certified_named}
use Rattle.protocol.proofs.Agreement.Observers.Names.{full_named, all_announce, named_full, certified_sum}

module _ (me : ℕ) (b : Base) (H : Inside me b) where
  abbrev n : ℕ
  n = b.n

  abbrev see : View
  see = view me b

  -- ---- the secondary check
  pub secondary_seen : (v : List ℕ) → secondary_holds b v ≡ true → Secondary n b.t see v
  unfolding secondary_holds
  secondary_seen v e = let p = and_true (leb (b.t + 1) (list_tally b v)) (leb 2 (correct_count b v)) e in record {
    tally = omega (arith, leb-true (b.t + 1) (list_tally b v) p.0, tally_seen me b H v);
    two = omega (arith, leb-true 2 (correct_count b v) p.1, corrects_seen me b H v);
  }

  pub seen_secondary : (v : List ℕ) → Secondary n b.t see v → secondary_holds b v ≡ true
  unfolding secondary_holds
  seen_secondary v S = and_both (le-leb (b.t + 1) (list_tally b v) (omega (arith, S.tally, tally_seen me b H v)))
      (le-leb 2 (correct_count b v) (omega (arith, S.two, corrects_seen me b H v)))

  -- ---- the prime check: Verifies and suspect pairs
  verify_skip : (i g : ℕ) → member g (see.verifies (skip me i)) ≡ holds_verify (link_at b i) g
  unfolding view holds_verify
  verify_skip i g = ap (λ (l : Link). member g (verifies_of l)) (link_skip me b i)

  module _ (all_named : (x : ℕ) → x < n → 1 ≤ see.named x) where
    -- the tally of the identifier of x: the links that hold its Verify, and one as it is certified
    tally_named : (x : ℕ) → x < n → tally b (see.named x) ≡ sum n (λ y. bit (member (see.named x) (see.verifies y))) + 1
    unfolding tally bit
    tally_named x l = ap₂ ◌+◌ verified (ap bit (named_certified me b H x l (all_named x l)))
      where
        verified : links b (λ (k : Link). holds_verify k (see.named x)) ≡ sum n (λ y. bit (member (see.named x) (see.verifies y)))
        verified = unfold view count holds_verify verifies_of member in links_seen me b H
            (λ (k : Link). member ((view me b).named x) (verifies_of k)) refl

    tallies_seen : tally_sum b ≡ n + total n (λ x y. bit (member (see.named y) (see.verifies x)))
    unfolding tally_sum total
    tallies_seen = certified_sum me b H all_named (tally b) ∙ omega (
      arith,
      sum_cong n (λ x. tally b (see.named x)) (λ x. sum n (λ y. bit (member (see.named x) (see.verifies y))) + 1) tally_named,
      sum_add n (λ x. sum n (λ y. bit (member (see.named x) (see.verifies y)))) (λ x. 1),
      sum_same n 1,
      sum_swap n n (λ x y. bit (member (see.named x) (see.verifies y))),
    )

    lacks_skip : (i y : ℕ) → lacks me see (skip me i) y ≡ not (holds_verify (link_at b i) (see.named y))
    lacks_skip i y = lacks_other me see (skip me i) y (skip_other me i) ∙ ap not (verify_skip i (see.named y))

    announce_skip : (i : ℕ) → i < n - 1 → announces (link_at b i) ≡ true
    announce_skip i l = all_announce me b H all_named i (omega (arith, link_count_lem b H.net))

    lacks_announced : (i j : ℕ) → lacks me see (skip me i) (skip me j) ≡ not (holds_verify (link_at b i) (link_at b j).announce)
    lacks_announced i j = lacks_skip i (skip me j) ∙ ap (λ g. not (holds_verify (link_at b i) g)) (named_skip me b j)

    pair_seen : (i j : ℕ) → i < n - 1 → j < i → bit (suspect_pair (link_at b i) (link_at b j)) ≡ suspect me see (skip me i) (skip me j)
    unfolding suspect_pair and
    pair_seen i j l h = rw (announce_skip i l, announce_skip j (omega arith))
        (sym (suspect_apart me see (skip me i) (skip me j) apart ∙ ap₂ (λ p q. bit (or p q)) (lacks_announced i j) (lacks_announced j i)))
      where
        apart : skip me i ≢ skip me j
        apart e = let q : i ≡ j = sym (place_skip me i) ∙ ap (place_of me) e ∙ place_skip me j in omega arith

    -- "For a pair with the own identifier, only the other's link is looked at."
    own_seen : (i : ℕ) → i < n - 1 → bit (suspect_own b.own (link_at b i)) ≡ suspect me see (skip me i) me
    unfolding suspect_own and
    own_seen i l = rw (announce_skip i l)
        (sym (suspect_apart me see (skip me i) me (skip_other me i)
        ∙ ap₂ (λ p q. bit (or p q)) lacks_own_name (lacks_own me see me (skip me i) refl)
        ∙ ap bit (or_none (not (holds_verify (link_at b i) b.own)))))
      where
        lacks_own_name : lacks me see (skip me i) me ≡ not (holds_verify (link_at b i) b.own)
        lacks_own_name = lacks_skip i me ∙ ap (λ g. not (holds_verify (link_at b i) g)) (named_own me b)

        or_none : (t : Bool) → or t false ≡ t
        or_none true = unfold or in refl
        or_none false = unfold or in refl

    -- suspect pairs of two links, and of a link and the base itself
    abbrev between : ℕ → ℕ
    between k = pairs k (λ i j. bit (suspect_pair (link_at b i) (link_at b j)))

    abbrev with_own : ℕ → ℕ
    with_own k = sum k (λ i. bit (suspect_own b.own (link_at b i)))

    suspects_seen : suspects b ≡ pairs n (suspect me see)
    unfolding suspects links
    suspects_seen = subst (λ k. between (link_count b) + with_own (link_count b) ≡ pairs k (suspect me see)) (net_size me b H) (omega (
      arith,
      ap between (link_count_lem b H.net),
      ap with_own (link_count_lem b H.net),
      pairs_skip (n - 1) me (suspect me see) (suspect_symmetric me see) (suspect_self me see) (omega (arith, H.inside)),
      sum_cong (n - 1) (λ i. bit (suspect_own b.own (link_at b i))) (λ i. suspect me see (skip me i) me) own_seen,
      same_between,
    ))
      where
        same_between : between (n - 1) ≡ pairs (n - 1) (λ i j. suspect me see (skip me i) (skip me j))
        same_between = unfold pairs in sum_cong (n - 1) _ _ (λ i l. sum_cong i _ _ (λ j h. pair_seen i j l h))

    -- "the final list is the certified ones sorted"
    pub sorted_lists : distinct (certified b) ≡ true → Lists n see.named (sort (certified b))
    sorted_lists d = record {
      ascends = ascending_sort (certified b) d;
      only = λ g h. certified_named me b H g (sym (member_sort g (certified b)) ∙ h);
      all = λ x l. member_sort (see.named x) (certified b) ∙ named_certified me b H x l (all_named x l);
    }

  pub prime_seen : 1 ≤ b.own → prime_holds b ≡ true → Prime n b.t me see
  unfolding prime_holds
  prime_seen own e =
      let p = and_true (eqb (length (certified b)) n) (and (leb (n * n) (tally_sum b + 2 * b.t)) (leb (suspects b) b.t)) e in
      let q = and_true (leb (n * n) (tally_sum b + 2 * b.t)) (leb (suspects b) b.t) p.1 in
      let all_named = full_named me b H own (eqb-true (length (certified b)) n p.0) in
      record {
        all_named = all_named;
        tallies = omega (arith, leb-true (n * n) (tally_sum b + 2 * b.t) q.0, tallies_seen all_named);
        few_suspects = omega (arith, leb-true (suspects b) b.t q.1, suspects_seen all_named);
      }

  pub seen_prime : Prime n b.t me see → prime_holds b ≡ true
  unfolding prime_holds
  seen_prime P =
      and_both (eq-eqb (length (certified b)) n (named_full me b H P.all_named))
      (and_both (le-leb (n * n) (tally_sum b + 2 * b.t) (omega (arith, P.tallies, tallies_seen P.all_named)))
      (le-leb (suspects b) b.t (omega (arith, P.few_suspects, suspects_seen P.all_named))))

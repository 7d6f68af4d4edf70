-- Safety of the prime check: a base that has n certified identifiers, one of them false, has more than t suspect pairs. An untouched base
-- never certified the false one, and a base with good links that lacks nothing would have certified n + 1; so nearly every base adds a
-- suspect pair or a faulty link. The test of the tallies' sum is not needed for this.
use Rattle.std.specs.Prelude.{ℕ, ◌+◌, ◌≤◌, ◌<◌, ◌≡◌, ◌≢◌, ◌⊎◌, true, not, List}
use Rattle.std.proofs.Common.{sym, ap, ◌∙◌, inl, inr, arith}
use Rattle.std.proofs.Math.Decide.{ℕ_discrete}
use Rattle.lists.specs.Lists.{member}
use Rattle.counting.specs.Sums.{pairs}
use Rattle.counting.specs.Sums.Laws.{sum_term}
use Rattle.counting.specs.Search.{each_or_one, met_or_not}
use Rattle.counting.specs.Degrees.{degree, pairs_twice}
use Rattle.counting.specs.Suspicion.{suspicion}
use Rattle.counting.specs.Pigeonhole.{Injective, Met, pigeonhole_spare, pigeonhole_onto}
use Rattle.protocol.proofs.Agreement.Cases.{zero_or_more, true_or_false}
use Rattle.protocol.specs.Agreement.Views.{View, Certified, lacks, suspect}
use Rattle.protocol.proofs.Agreement.Suspects.{lacks_other, lacks_not, suspect_self, suspect_symmetric, suspect_none, suspect_lacking}
use Rattle.protocol.specs.Agreement.Invariant.{Premises}

module _ (n t : ℕ) (faulty : ℕ → ℕ → ℕ) (id : ℕ → ℕ) (truth : List ℕ) (P : Premises n t faulty id truth) (base : ℕ → View)
    (own_named : (x : ℕ) → x < n → (base x).named x ≡ id x)
    (heard_name : (y x : ℕ) → y < n → x < n → x ≢ y → faulty x y ≡ 0 → 1 ≤ (base y).named x → (base y).named x ≡ id x)
    (heard_verify : (y x g : ℕ) → y < n → x < n → x ≢ y → faulty x y ≡ 0 → member g ((base y).verifies x) ≡ true → Certified n (base x) g)
    (Y : ℕ) (Y-in : Y < n) (all_named : (x : ℕ) → x < n → 1 ≤ (base Y).named x) (apart : Injective n (base Y).named) where
  -- the identifier that Y has for the base d is false
  module _ (d : ℕ) (d_in : d < n) (false-name : (z : ℕ) → z < n → (base Y).named d ≢ id z) where
    not_own : d ≢ Y
    not_own e = false-name Y Y-in (ap (base Y).named e ∙ own_named Y Y-in)

    false_link : 1 ≤ faulty d Y
    false_link = elim (zero_or_more (faulty d Y)) [
      | inr h ↦ h
      | inl good ↦ absurd (false-name d d_in (heard_name Y d Y-in d_in not_own good (all_named d d_in)))
    ]

    -- so one of the n true identifiers is not among the n that Y has
    missing : (Z : ℕ) × (Z < n) × ((j : ℕ) → j < n → (base Y).named j ≢ id Z)
    missing = go (each_or_one n _ _ (λ z l. turn z (met_or_not n (base Y).named (id z))))
      where
        go : ((z : ℕ) → z < n → Met n (base Y).named (id z)) ⊎ ((Z : ℕ) × (Z < n) × ((j : ℕ) → j < n → (base Y).named j ≢ id Z))
            → (Z : ℕ) × (Z < n) × ((j : ℕ) → j < n → (base Y).named j ≢ id Z)
        go (inl met) = let w = pigeonhole_onto n id (base Y).named P.ids_apart met d d_in in absurd (false-name w.0 w.1 w.2)
        go (inr w) = w

        turn : (z : ℕ) → ((j : ℕ) → j < n → (base Y).named j ≢ id z) ⊎ ((j : ℕ) × (j < n) × ((base Y).named j ≡ id z))
            → Met n (base Y).named (id z) ⊎ ((j : ℕ) → j < n → (base Y).named j ≢ id z)
        turn z (inl h) = inr h
        turn z (inr w) = inl (w.0, w.1, sym w.2)

    module _ (Z : ℕ) (Z-in : Z < n) (unnamed : (j : ℕ) → j < n → (base Y).named j ≢ id Z) where
      not_missing : Z ≢ Y
      not_missing e = unnamed Y Y-in (own_named Y Y-in ∙ ap id (sym e))

      missing_link : 1 ≤ faulty Z Y
      missing_link = elim (zero_or_more (faulty Z Y)) [
        | inr h ↦ h
        | inl good ↦ absurd (unnamed Z Z-in (heard_name Y Z Y-in Z-in not_missing good (all_named Z Z-in)))
      ]

      -- a base x with good links to Y and Z whose link to Y lacks nothing has certified the n identifiers of Y, and that of Z besides
      lacks_something : (x : ℕ) → x < n → x ≢ Y → x ≢ Z → faulty x Y ≡ 0 → faulty x Z ≡ 0 → degree n (suspect Y (base Y)) x ≡ 0 → ⊥
      lacks_something x l x_y x_z good_y good_z none =
          let r = pigeonhole_spare n n (base Y).named (base x).named apart has Z Z-in spare in
          omega arith
        where
          has : (u : ℕ) → u < n → Met n (base x).named ((base Y).named u)
          has u k = elim (ℕ_discrete x u) [
            | yes e ↦ (x, l, ap (base Y).named (sym e) ∙ heard_name Y x Y-in l x_y good_y (all_named x l) ∙ sym (own_named x l))
            | no e ↦ heard_verify Y x ((base Y).named u) Y-in l x_y good_y
                (lacks_not Y (base Y) x u x_y (suspect_none Y (base Y) x u e (omega (arith, sum_term n (suspect Y (base Y) x) u k))))
          ]

          spare : (u : ℕ) → u < n → (base Y).named u ≢ (base x).named Z
          spare u k e = elim (zero_or_more ((base x).named Z)) [
            | inl z ↦ omega (arith, all_named u k)
            | inr z ↦ unnamed u k (e ∙ heard_name x Z l Z-in (λ p. x_z (sym p)) (P.symmetric Z x ∙ good_z) z)
          ]

      some_suspect : (x : ℕ) → x < n → x ≢ Y → x ≢ Z → x ≢ d → 1 ≤ degree n (suspect Y (base Y)) x + faulty x Y + faulty x Z
      some_suspect x l x_y x_z xd = elim (zero_or_more (degree n (suspect Y (base Y)) x + faulty x Y + faulty x Z)) [
        | inr h ↦ h
        | inl e ↦ absurd (lacks_something x l x_y x_z (omega arith) (omega arith) (omega arith))
      ]

      -- an untouched base has certified true identifiers alone, and so its link to Y lacks the false one
      untouched_lacks : (x : ℕ) → x < n → x ≢ Y → degree n faulty x ≡ 0 → lacks Y (base Y) x d ≡ true
      untouched_lacks x l x_y none = elim (true_or_false (member ((base Y).named d) ((base Y).verifies x))) [
        | inr e ↦ lacks_other Y (base Y) x d x_y ∙ ap not e
        | inl e ↦ absurd (certifies (heard_verify Y x ((base Y).named d) Y-in l x_y (good Y Y-in) e))
      ]
        where
          good : (y : ℕ) → y < n → faulty x y ≡ 0
          good y k = omega (arith, sum_term n (faulty x) y k)

          certifies : Certified n (base x) ((base Y).named d) → ⊥
          certifies w = elim (ℕ_discrete w.0 x) [
            | yes e ↦ false-name x l (w.2 ∙ ap (base x).named e ∙ own_named x l)
            | no e ↦ false-name w.0 w.1
                (w.2 ∙ heard_name x w.0 l w.1 e (P.symmetric w.0 x ∙ good w.0 w.1) (omega (arith, all_named d d_in, w.2)))
          ]

      suspect_false : (x : ℕ) → x < n → x ≢ Y → x ≢ d → 1 ≤ suspect Y (base Y) d x + degree n faulty x
      suspect_false x l x_y xd = elim (zero_or_more (degree n faulty x)) [
        | inr h ↦ omega arith
        | inl e ↦ omega (arith, suspect_lacking Y (base Y) d x (λ p. xd (sym p)) (untouched_lacks x l x_y e))
      ]

      suspects_many : t < pairs n (suspect Y (base Y))
      suspects_many = omega (
        arith,
        P.few_faulty,
        P.enough,
        suspicion n faulty (suspect Y (base Y)) P.symmetric Y Z d Y-in Z-in d_in not_missing not_own missing_link false_link some_suspect
            suspect_false,
        pairs_twice n (suspect Y (base Y)) (suspect_symmetric Y (base Y)) (suspect_self Y (base Y)),
      )

    false_name_suspects : t < pairs n (suspect Y (base Y))
    false_name_suspects = let w = missing in suspects_many w.0 w.1 w.2

  -- with at most t suspect pairs every identifier that Y has is a true one, and so it has all of them
  pub names_true : pairs n (suspect Y (base Y)) ≤ t → (u : ℕ) → u < n → Met n id ((base Y).named u)
  names_true few u l = elim (met_or_not n id ((base Y).named u)) [
    | inr w ↦ (w.0, w.1, sym w.2)
    | inl none ↦ absurd (let r = false_name_suspects u l (λ z k e. none z k (sym e)) in omega arith)
  ]

  pub truth_named : pairs n (suspect Y (base Y)) ≤ t → (z : ℕ) → z < n → Certified n (base Y) (id z)
  truth_named few z l = pigeonhole_onto n (base Y).named id apart (names_true few) z l

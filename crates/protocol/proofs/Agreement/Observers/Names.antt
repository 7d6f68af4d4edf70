-- The identifiers that a base has for the others, against the certified ones of its record: one is certified exactly if the base has it for
-- somebody, and n are certified exactly if it has one for everybody.
use Prim.Native.Nat.{ℕ, zero, suc, ◌+◌, ◌-◌, ◌≤◌, ◌<◌}
use Rattle.std.specs.Prelude.{◌≡◌, ◌≢◌, true, false, ◌∷◌}
use Rattle.std.proofs.Math.Path.{refl, sym, ap, subst}
use Rattle.std.proofs.Common.{◌∙◌, le_refl, eq-eqb, ne_eqb}
use Rattle.std.proofs.Math.Logic.{inl, inr}
use Rattle.std.proofs.Math.Decide.{ℕ_discrete}
use native.Mathlib.Omega.{arith}
use Rattle.std.proofs.Math.ListN.{length}
use Rattle.lists.specs.Choice.Laws.{choose_yes, choose_no, clash}
use Rattle.lists.specs.Lists.{member, distinct, sum_over}
use Rattle.lists.specs.Lists.Order.{member_none}
use Rattle.lists.specs.Lists.Sets.{member_head, member_tail, member_cases}
use Rattle.lists.specs.Lists.Places.{distinct_parts}
use Rattle.counting.specs.Sums.{sum}
use Rattle.counting.specs.Sums.Laws.{sum_cong}
use Rattle.counting.specs.Gap.{skip, sum_skip}
use Rattle.protocol.specs.declared.Link.{Link}
use Rattle.protocol.specs.declared.Base.{Base}
use Rattle.protocol.specs.Links.{announces}
use Rattle.protocol.proofs.Links.Laws.{announces_some, announces_none, some_announces}
use Rattle.protocol.specs.Record.{link_at, link_count, announced, certified}
use Rattle.protocol.proofs.Record.Laws.{link_count_lem}
use Rattle.protocol.proofs.Record.Announced.{announced_ind, announced_next, length_announced}
use Rattle.protocol.specs.Agreement.Views.{Certified}
use Rattle.protocol.proofs.Agreement.Observers.{place_of, link_for, view}
use Rattle.protocol.proofs.Agreement.Observers.Places.{place_skip, skip_other, skip_inside, place_inside, place_apart, link_other}
use Rattle.protocol.proofs.Agreement.Observers.Counts.{Inside, net_size}

-- ---- the identifiers announced at places
pub announced_has : (at : ℕ → Link) (k i : ℕ) → i < k → announces (at i) ≡ true → member (at i).announce (announced k at) ≡ true
announced_has at k i = announced_ind (λ j l. i < j → announces (at i) ≡ true → member (at i).announce l ≡ true) at
    (λ h e. absurd (omega arith))
    (λ j says ih h e. elim (ℕ_discrete i j) [
      | yes q ↦ rw q (member_head (at j).announce (announced j at))
      | no q ↦ member_tail (at i).announce (at j).announce (announced j at) (ih (omega arith) e)
    ])
    (λ j silent ih h e. elim (ℕ_discrete i j) [ yes q ↦ clash e (ap (λ z. announces (at z)) q ∙ silent) | no q ↦ ih (omega arith) e ])
    k

pub announced_where : (at : ℕ → Link) (k g : ℕ) → member g (announced k at) ≡ true
    → (i : ℕ) × (i < k) × ((at i).announce ≡ g) × (announces (at i) ≡ true)
announced_where at k g = announced_ind (λ j l. member g l ≡ true → (i : ℕ) × (i < j) × ((at i).announce ≡ g) × (announces (at i) ≡ true)) at
    (λ h. absurd (member_none g h))
    (λ j says ih h. elim (member_cases g (at j).announce (announced j at) h) [
      | inl e ↦ (j, le_refl (suc j), e, says)
      | inr e ↦ (let w = ih e in (w.0, omega (arith, w.1), w.2, w.3))
    ])
    (λ j silent ih h. let w = ih h in (w.0, omega (arith, w.1), w.2, w.3))
    k

-- different places announce different identifiers
pub announced_apart : (at : ℕ → Link) (k i j : ℕ) → distinct (announced k at) ≡ true → i < k → j < k → announces (at i) ≡ true
    → (at i).announce ≡ (at j).announce → i ≡ j
announced_apart at k i j =
    announced_ind (λ m l. distinct l ≡ true → i < m → j < m → announces (at i) ≡ true → (at i).announce ≡ (at j).announce → i ≡ j) at
    (λ d li lj says e. absurd (omega arith))
    (λ m says_m ih d li lj says e. last m says_m d li lj says e (ℕ_discrete i m) (ℕ_discrete j m)
    (ih (distinct_parts (at m).announce (announced m at) d).1))
    (λ m silent ih d li lj says e. elim (ℕ_discrete i m) [
      | yes q ↦ clash says (ap (λ z. announces (at z)) q ∙ silent)
      | no q ↦ elim (ℕ_discrete j m) [
        | yes r ↦ absurd (
            let z = announces_some (at i) says in
            let y = announces_none (at m) silent in
            omega (arith, ap (λ z. (at z).announce) r))
        | no r ↦ ih d (omega arith) (omega arith) says e
      ]
    ])
    k
  where
    again : (m i : ℕ) → distinct ((at m).announce ∷ announced m at) ≡ true → i < m → announces (at i) ≡ true
        → (at i).announce ≡ (at m).announce → ⊥
    again m i d l says e = clash (subst (λ g. member g (announced m at) ≡ true) e (announced_has at m i l says))
        (distinct_parts (at m).announce (announced m at) d).0

    same : (m j : ℕ) → announces (at m) ≡ true → (at m).announce ≡ (at j).announce → announces (at j) ≡ true
    same m j says e = some_announces (at j) (omega (arith, announces_some (at m) says))

    last : (m : ℕ) → announces (at m) ≡ true → distinct ((at m).announce ∷ announced m at) ≡ true → i < suc m → j < suc m
        → announces (at i) ≡ true → (at i).announce ≡ (at j).announce
        → Dec (i ≡ m) → Dec (j ≡ m) → (i < m → j < m → announces (at i) ≡ true → (at i).announce ≡ (at j).announce → i ≡ j) → i ≡ j
    last m says_m d li lj says e (yes q) (yes r) ih = q ∙ sym r
    last m says_m d li lj says e (yes q) (no r) ih =
        absurd (again m j d (omega arith) (same i j says e) (sym e ∙ ap (λ z. (at z).announce) q))
    last m says_m d li lj says e (no q) (yes r) ih = absurd (again m i d (omega arith) says (e ∙ ap (λ z. (at z).announce) r))
    last m says_m d li lj says e (no q) (no r) ih = ih (omega arith) (omega arith) says e

-- where as many are announced as there are places, each place announces
pub announced_full : (at : ℕ → Link) (k : ℕ) → length (announced k at) ≡ k → (i : ℕ) → i < k → announces (at i) ≡ true
announced_full at k e i h = announced_ind (λ j l. length l ≡ j → i < j → announces (at i) ≡ true) at
    (λ q l. absurd (omega arith))
    (λ j says ih q l. elim (ℕ_discrete i j) [ yes r ↦ rw r says | no r ↦ ih (omega arith) (omega arith) ])
    (λ j silent ih q l. absurd (omega (arith, length_announced j at)))
    k e h

-- where each place announces
module _ (at : ℕ → Link) where
  pub announced_length : (k : ℕ) → ((i : ℕ) → i < k → announces (at i) ≡ true) → length (announced k at) ≡ k
  announced_length zero h = unfold announced in refl
  announced_length (suc k) h = ap length (announced_next k at (h k (le_refl (suc k))))
      ∙ ap suc (announced_length k (λ i l. h i (omega arith)))

  pub announced_sum : (k : ℕ) → ((i : ℕ) → i < k → announces (at i) ≡ true) → (f : ℕ → ℕ)
      → sum_over (announced k at) f ≡ sum k (λ i. f (at i).announce)
  unfolding sum_over sum
  announced_sum zero h f = unfold announced in refl
  announced_sum (suc k) h f = ap (λ l. sum_over l f) (announced_next k at (h k (le_refl (suc k))))
      ∙ ap (λ s. f (at k).announce + s) (announced_sum k (λ i l. h i (omega arith)) f)

-- ---- what a base has for x
pub named_own : (me : ℕ) (b : Base) → (view me b).named me ≡ b.own
unfolding view
named_own me b = choose_yes b.own (link_for me b me).announce (eq-eqb me me refl)

pub named_other : (me : ℕ) (b : Base) (x : ℕ) → x ≢ me → (view me b).named x ≡ (link_at b (place_of me x)).announce
unfolding view
named_other me b x ne = choose_no b.own (link_for me b x).announce (ne_eqb x me ne)
    ∙ ap (λ (l : Link). l.announce) (link_other me b x ne)

pub named_skip : (me : ℕ) (b : Base) (i : ℕ) → (view me b).named (skip me i) ≡ (link_at b i).announce
named_skip me b i = named_other me b (skip me i) (skip_other me i) ∙ ap (λ j. (link_at b j).announce) (place_skip me i)

module _ (me : ℕ) (b : Base) (H : Inside me b) where
  at_place : (x : ℕ) → x < b.n → x ≢ me → place_of me x < link_count b
  at_place x l ne = omega (arith, place_inside me x b.n H.inside l ne, link_count_lem b H.net)

  -- an identifier that it has for another was announced
  named_announced : (x : ℕ) → x < b.n → x ≢ me → 1 ≤ (view me b).named x
      → member ((view me b).named x) (announced (link_count b) (link_at b)) ≡ true
  named_announced x l ne above = rw (named_other me b x ne) (announced_has (link_at b) (link_count b) (place_of me x) (at_place x l ne)
      (some_announces (link_at b (place_of me x)) (omega (arith, named_other me b x ne))))

  pub named_certified : (x : ℕ) → x < b.n → 1 ≤ (view me b).named x → member ((view me b).named x) (certified b) ≡ true
  unfolding certified
  named_certified x l above = elim (ℕ_discrete x me) [
    | yes e ↦ subst (λ g. member g (certified b) ≡ true) (sym (ap (view me b).named e ∙ named_own me b))
        (member_head b.own (announced (link_count b) (link_at b)))
    | no e ↦ member_tail ((view me b).named x) b.own (announced (link_count b) (link_at b)) (named_announced x l e above)
  ]

  pub certified_named : (g : ℕ) → member g (certified b) ≡ true → Certified b.n (view me b) g
  unfolding certified
  certified_named g h = elim (member_cases g b.own (announced (link_count b) (link_at b)) h) [
    | inl e ↦ (me, H.inside, sym e ∙ sym (named_own me b))
    | inr e ↦ (let w = announced_where (link_at b) (link_count b) g e in (
      skip me w.0,
      skip_inside me w.0 b.n H.inside (omega (arith, w.1, link_count_lem b H.net)),
      sym w.2 ∙ sym (named_skip me b w.0),
    ))
  ]

  pub names_apart : distinct (certified b) ≡ true → (x y : ℕ) → x < b.n → y < b.n → 1 ≤ (view me b).named x
      → (view me b).named x ≡ (view me b).named y → x ≡ y
  unfolding certified
  names_apart d x y lx ly above e = go (ℕ_discrete x me) (ℕ_discrete y me)
    where
      parts : (member b.own (announced (link_count b) (link_at b)) ≡ false) × (distinct (announced (link_count b) (link_at b)) ≡ true)
      parts = distinct_parts b.own (announced (link_count b) (link_at b)) d

      own_again : (z : ℕ) → z < b.n → z ≢ me → 1 ≤ (view me b).named z → (view me b).named z ≡ b.own → ⊥
      own_again z l ne some q = clash
          (subst (λ g. member g (announced (link_count b) (link_at b)) ≡ true) q (named_announced z l ne some)) parts.0

      go : Dec (x ≡ me) → Dec (y ≡ me) → x ≡ y
      go (yes p) (yes q) = p ∙ sym q
      go (yes p) (no q) = absurd (own_again y ly q (omega (arith, e)) (sym e ∙ ap (view me b).named p ∙ named_own me b))
      go (no p) (yes q) = absurd (own_again x lx p above (e ∙ ap (view me b).named q ∙ named_own me b))
      go (no p) (no q) = place_apart me x y p q (announced_apart (link_at b) (link_count b) (place_of me x) (place_of me y) parts.1
          (at_place x lx p) (at_place y ly q)
          (some_announces (link_at b (place_of me x)) (omega (arith, named_other me b x p)))
          (sym (named_other me b x p) ∙ e ∙ named_other me b y q))

  -- ---- one for everybody
  pub full_named : 1 ≤ b.own → length (certified b) ≡ b.n → (x : ℕ) → x < b.n → 1 ≤ (view me b).named x
  unfolding certified
  full_named own e x l = elim (ℕ_discrete x me) [
    | yes q ↦ omega (arith, ap (view me b).named q, named_own me b)
    | no q ↦ omega (
      arith,
      named_other me b x q,
      announces_some (link_at b (place_of me x))
          (announced_full (link_at b) (link_count b) (omega (arith, link_count_lem b H.net)) (place_of me x) (at_place x l q)),
    )
  ]

  module _ (all_named : (x : ℕ) → x < b.n → 1 ≤ (view me b).named x) where
    pub all_announce : (i : ℕ) → i < link_count b → announces (link_at b i) ≡ true
    all_announce i l = some_announces (link_at b i) (omega (
      arith,
      all_named (skip me i) (skip_inside me i b.n H.inside (omega (arith, link_count_lem b H.net))),
      named_skip me b i,
    ))

    pub named_full : length (certified b) ≡ b.n
    unfolding certified
    named_full = omega (arith, announced_length (link_at b) (link_count b) all_announce, link_count_lem b H.net, H.inside)

    -- what is summed over the certified ones is summed over the bases
    pub certified_sum : (f : ℕ → ℕ) → sum_over (certified b) f ≡ sum b.n (λ x. f ((view me b).named x))
    unfolding certified sum_over
    certified_sum f =
        subst (λ k. f b.own + sum_over (announced (link_count b) (link_at b)) f ≡ sum k (λ x. f ((view me b).named x))) (net_size me b H)
        (omega (
          arith,
          announced_sum (link_at b) (link_count b) all_announce f,
          ap (λ k. sum k (λ i. f (link_at b i).announce)) (link_count_lem b H.net),
          sum_cong (b.n - 1) (λ i. f (link_at b i).announce) (λ i. f ((view me b).named (skip me i)))
              (λ i h. ap f (sym (named_skip me b i))),
          sum_skip (b.n - 1) me (λ x. f ((view me b).named x)) (omega (arith, H.inside)),
          ap f (named_own me b),
        ))

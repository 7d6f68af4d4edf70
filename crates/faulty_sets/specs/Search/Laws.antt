-- The search, pair by pair: what is sought stays the same, whether the next pair is in the set or not.
use Rattle.std.specs.Prelude.{ℕ, zero, suc, ◌+◌, ◌-◌, ◌≤◌, ◌<◌, ◌≡◌, refl, take, drop}
use Rattle.std.proofs.Math.Path.{sym, ap}
use Rattle.std.proofs.Common.{ap₂, ◌∙◌, subst, add-one, arith}
use Rattle.std.proofs.Common.{length-drop, drop_of_length-le, drop-cons, get_or-take, take-suc-set, length-take-le}
use mathlib.Core.List.{List, [], ◌∷◌, ◌++◌, append_assoc, append-nil}
use Rattle.std.proofs.Math.Decide.{dec_lt}
use Rattle.std.proofs.Math.ListN.{length, get_or, length-set, length-take, get_or-eq_default}
use Rattle.link_sets.specs.declared.LinkPair.{LinkPair}
use Rattle.link_sets.specs.Pairs.{net_pairs}
use Rattle.link_sets.proofs.Pairs.Laws.{pairs_counted}
use Rattle.link_sets.specs.Sets.{sets_of}
use Rattle.link_sets.proofs.Sets.Laws.{sets_of_nothing, sets_both, set_with, set_without}
use Rattle.link_sets.specs.Count.{pair_count, choices}
use Rattle.link_sets.proofs.Count.Laws.{sets_counted}
use Rattle.faulty_sets.specs.declared.search.Chosen.{Chosen}
use Rattle.faulty_sets.specs.declared.search.Search.{Search}
use Rattle.faulty_sets.specs.Answers.{no_link_pair}
use Rattle.faulty_sets.specs.Search.{chosen_pairs, with_pair, sets_from, sought_by, Searching}

-- ---- what is chosen
module _ (c : Chosen) where
  pub chosen_there : (i : ℕ) → i < c.count → get_or c.pairs i no_link_pair ≡ get_or (chosen_pairs c) i no_link_pair
  unfolding chosen_pairs
  chosen_there i h = sym (get_or-take c.count c.pairs i no_link_pair h)

  pub none_chosen : (i : ℕ) → c.count ≤ i → no_link_pair ≡ get_or (chosen_pairs c) i no_link_pair
  unfolding chosen_pairs
  none_chosen i h =
      let few : length (take c.count c.pairs) ≤ i = omega (arith, length-take c.count c.pairs) in
      sym (get_or-eq_default (take c.count c.pairs) no_link_pair {n = i} few)

  pub chosen_count : c.count ≤ length c.pairs → c.count ≡ length (chosen_pairs c)
  unfolding chosen_pairs
  chosen_count h = sym (length-take-le c.count c.pairs h)

  chosen_more : (p : LinkPair) → c.count < length c.pairs → chosen_pairs (with_pair c p) ≡ chosen_pairs c ++ (p ∷ [])
  unfolding chosen_pairs with_pair
  chosen_more p h = rw (add-one c.count) (take-suc-set c.pairs c.count p h)

-- ---- the next pair
module _ (n place k number : ℕ) (there : number < length (sets_from n place (suc k))) where
  pair_left : place < length (net_pairs n)
  pair_left = elim (dec_lt place (length (net_pairs n))) [
    | yes y ↦ y
    | no y ↦ absurd (none (drop_of_length-le (net_pairs n) {i = place} (omega arith)))
  ]
    where
      none : drop place (net_pairs n) ≡ [] → ⊥
      none e = omega (arith, sets_of_nothing LinkPair k, ap (λ (l : List LinkPair). length (sets_of (suc k) l)) e)

  abbrev here : LinkPair
  here = get_or (net_pairs n) place no_link_pair

  split : drop place (net_pairs n) ≡ here ∷ drop (place + 1) (net_pairs n)
  split = rw (add-one place) (drop-cons (net_pairs n) place no_link_pair pair_left)

  in_set : number < length (sets_from n (place + 1) k)
      → get_or (sets_from n place (suc k)) number [] ≡ here ∷ get_or (sets_from n (place + 1) k) number []
  in_set h =
      ap (λ (l : List LinkPair). get_or (sets_of (suc k) l) number []) split
      ∙ set_with k here (drop (place + 1) (net_pairs n)) number h

  not_in_set : length (sets_from n (place + 1) k) ≤ number
      → get_or (sets_from n place (suc k)) number [] ≡ get_or (sets_from n (place + 1) (suc k)) (number - length (sets_from n
      (place + 1) k)) []
  not_in_set h =
      ap (λ (l : List LinkPair). get_or (sets_of (suc k) l) number []) split
      ∙ set_without k here (drop (place + 1) (net_pairs n)) number h

  still_there : length (sets_from n (place + 1) k) ≤ number
      → number - length (sets_from n (place + 1) k) < length (sets_from n (place + 1) (suc k))
  still_there h =
      let both = sets_both k here (drop (place + 1) (net_pairs n)) in
      omega (arith, both, ap (λ (l : List LinkPair). length (sets_of (suc k) l)) split, there)

-- how many sets there are of the pairs behind a place
sets_behind : (n place k : ℕ) → length (sets_from n (place + 1) k) ≡ choices (pair_count n - (place + 1)) k
sets_behind n place k = sets_counted k (drop (place + 1) (net_pairs n))
    ∙ ap (λ (m : ℕ). choices m k) (length-drop (place + 1) (net_pairs n) ∙ ap (λ (m : ℕ). m - (place + 1)) (pairs_counted n))

-- ---- a step of the search
module _ (n : ℕ) (s : Search) (S : Searching n s) (some : 0 < s.wanted) where
  fewer : suc (s.wanted - 1) ≡ s.wanted
  fewer = omega arith

  there : s.number < length (sets_from n s.place (suc (s.wanted - 1)))
  there = subst (λ (k : ℕ). s.number < length (sets_from n s.place k)) (sym fewer) S.there

  pub place_left : s.place < pair_count n
  place_left = omega (arith, pair_left n s.place (s.wanted - 1) s.number there, pairs_counted n)

  module _ {w : ℕ} (e : w ≡ choices (pair_count n - (s.place + 1)) (s.wanted - 1)) where
    with_counted : w ≡ length (sets_from n (s.place + 1) (s.wanted - 1))
    with_counted = e ∙ sym (sets_behind n s.place (s.wanted - 1))

    -- the pair is in the set
    module _ (less : s.number < w) {p : LinkPair} (is : p ≡ get_or (net_pairs n) s.place no_link_pair)
        {c : Chosen} (after : c ≡ with_pair s.chosen p) where
      pub taken_sought : sought_by n (record { place = s.place + 1; wanted = s.wanted - 1; number = s.number; chosen = c }) ≡ sought_by n s
      unfolding sought_by
      taken_sought =
          let rest = get_or (sets_from n (s.place + 1) (s.wanted - 1)) s.number [] in
          let h : s.number < length (sets_from n (s.place + 1) (s.wanted - 1)) = omega (arith, with_counted) in
          ap (λ (l : List LinkPair). l ++ rest) (ap chosen_pairs after ∙ chosen_more s.chosen p (omega (arith, S.room, S.sized)))
          ∙ append_assoc (chosen_pairs s.chosen) (p ∷ []) rest
          ∙ ap (λ (l : List LinkPair). chosen_pairs s.chosen ++ l)
          (ap (λ (x : LinkPair). x ∷ rest) is ∙ sym (in_set n s.place (s.wanted - 1) s.number there h)
          ∙ ap (λ (k : ℕ). get_or (sets_from n s.place k) s.number []) fewer)

      pub taken_searching : Searching n (record { place = s.place + 1; wanted = s.wanted - 1; number = s.number; chosen = c })
      unfolding with_pair
      taken_searching = record {
        there = omega (arith, with_counted);
        room = omega (arith, S.room, ap (λ (x : Chosen). x.count) after);
        sized = ap (λ (x : Chosen). length x.pairs) after ∙ length-set s.chosen.pairs s.chosen.count p ∙ S.sized;
      }

    -- it is not
    module _ (more : w ≤ s.number) where
      enough : length (sets_from n (s.place + 1) (s.wanted - 1)) ≤ s.number
      enough = omega (arith, with_counted)

      pub passed_sought : sought_by n (record { place = s.place + 1; wanted = s.wanted; number = s.number - w; chosen = s.chosen })
          ≡ sought_by n s
      unfolding sought_by
      passed_sought =
          ap (λ (l : List LinkPair). chosen_pairs s.chosen ++ l)
          (ap₂ (λ (k i : ℕ). get_or (sets_from n (s.place + 1) k) i []) (sym fewer) (ap (λ (x : ℕ). s.number - x) with_counted)
          ∙ sym (not_in_set n s.place (s.wanted - 1) s.number there enough)
          ∙ ap (λ (k : ℕ). get_or (sets_from n s.place k) s.number []) fewer)

      pub passed_searching : Searching n (record { place = s.place + 1; wanted = s.wanted; number = s.number - w; chosen = s.chosen })
      passed_searching =
          let behind = still_there n s.place (s.wanted - 1) s.number there enough in
          let same = ap (λ (k : ℕ). length (sets_from n (s.place + 1) k)) fewer in
          record { there = omega (arith, behind, with_counted, same); room = S.room; sized = S.sized }

-- ---- its end
nothing_wanted : (l : List LinkPair) (i : ℕ) → get_or (sets_of 0 l) i [] ≡ []
unfolding sets_of
nothing_wanted l zero = refl
nothing_wanted l (suc i) = refl

pub search_ends : (n : ℕ) (s : Search) → s.wanted ≡ 0 → sought_by n s ≡ chosen_pairs s.chosen
unfolding sought_by
search_ends n s e =
    ap (λ (k : ℕ). chosen_pairs s.chosen ++ get_or (sets_from n s.place k) s.number []) e
    ∙ ap (λ (l : List LinkPair). chosen_pairs s.chosen ++ l) (nothing_wanted (drop s.place (net_pairs n)) s.number)
    ∙ append-nil (chosen_pairs s.chosen)

-- An empty link is sound in any net, and a sound link with nothing held is empty. So a place is looked at as a link is, and past the
-- base's links whether anything is held there.
use Prim.Native.Nat.{ℕ, ◌+◌, ◌-◌, ◌≤◌, ◌<◌}
use mathlib.Core.Path.{◌≡◌, refl, sym, ap, ap₂, ◌∙◌}
use mathlib.Core.Logic.{◌≢◌}
use mathlib.Core.Bool.{Bool, true, false, not}
use mathlib.Core.List.{[]}
use native.Mathlib.Decide.{dec_lt}
use native.Mathlib.Omega.{arith}
use borrow.Author.Tests.{eq-eqb, ne_eqb, eqb-true}
use lib.Dec.{eqb}
use lib.ListN.{take, drop}
use Rattle.lists.specs.Choice.{and}
use Rattle.lists.specs.Choice.Laws.{choose_yes, clash, and_fails, and_goes_on}
use Rattle.lists.specs.Lists.{nonzero, distinct, zeros}
use Rattle.counting.specs.Sums.{bit}
use Rattle.counting.specs.Counts.{bit_yes}
use Rattle.protocol.specs.declared.Link.{Link}
use Rattle.protocol.specs.Links.{announces, verifies_of, used}
use Rattle.protocol.proofs.Links.Laws.{announces_none}
use Rattle.protocol.specs.Sound.{held_sound, link_empty, link_sound, place_sound}
use Rattle.protocol.proofs.Sound.Laws.{EmptyParts, empty_parts, link_parts, parts_link, held_none, place_used, place_unused}

-- ---- an empty link
used_none : (l : Link) → EmptyParts l → used l ≡ 0
unfolding used announces bit
used_none l E = ap₂ (λ (c a : ℕ). c + bit (not (eqb a 0))) E.count E.announce

verifies_none : (l : Link) → EmptyParts l → verifies_of l ≡ []
unfolding verifies_of
verifies_none l E = ap (λ (c : ℕ). take c l.verifies) E.count

empty_link_lem : (n : ℕ) (l : Link) → EmptyParts l → link_sound n l ≡ true
unfolding nonzero distinct held_sound
empty_link_lem n l E = parts_link (record {
  room = omega (arith, used_none l E);
  above_zero = ap nonzero (verifies_none l E);
  apart = ap distinct (verifies_none l E);
  behind = ap (λ (c : ℕ). zeros (drop c l.verifies)) E.count ∙ E.verifies;
  held = choose_yes _ _ (eq-eqb l.held 0 E.held) ∙ E.list;
})

pub empty_place : (n i : ℕ) (l : Link) → link_empty l ≡ true → place_sound n i l ≡ true
empty_place n i l e = elim (dec_lt i (n - 1)) [
  | yes h ↦ place_used n i l h ∙ empty_link_lem n l (empty_parts l e)
  | no h ↦ place_unused n i l (omega (arith, h)) ∙ e
]

-- ---- a sound link with nothing held
unused : (l : Link) → used l ≡ 0 → (l.announce ≡ 0) × (l.verify_count ≡ 0)
unfolding used
unused l e = (announces_none l (go (announces l) refl), omega (arith, e))
  where
    go : (t : Bool) → announces l ≡ t → announces l ≡ false
    go true p = absurd (omega (arith, e, bit_yes p))
    go false p = p

empty_held : (n : ℕ) (l : Link) → link_sound n l ≡ true → used l ≡ 0 → eqb l.held 0 ≡ link_empty l
unfolding link_empty
empty_held n l s e =
    let P = link_parts n l s in
    let u = unused l e in
    and_goes_on (eq-eqb l.announce 0 u.0) (and_goes_on (eq-eqb l.verify_count 0 u.1)
    (and_goes_on (ap (λ (c : ℕ). zeros (drop c l.verifies)) (sym u.1) ∙ P.behind) (go P.held (eqb l.held 0) refl)))
  where
    go : held_sound n l ≡ true → (t : Bool) → eqb l.held 0 ≡ t → eqb l.held 0 ≡ and (eqb l.held 0) (zeros l.list)
    go h true p = and_goes_on p (p ∙ sym (held_none n l h (eqb-true l.held 0 p)))
    go h false p = p ∙ and_fails _ p

-- ---- a place
module _ (n i : ℕ) (l : Link) where
  implied : {a b : Bool} → (b ≡ true → a ≡ true) → a ≡ false → false ≡ b
  implied {b = true} f e = clash (f refl) e
  implied {b = false} f e = refl

  pub unsound_place : link_sound n l ≡ false → false ≡ place_sound n i l
  unsound_place = implied (λ e. elim (dec_lt i (n - 1)) [
    | yes h ↦ sym (place_used n i l h) ∙ e
    | no h ↦ empty_link_lem n l (empty_parts l (sym (place_unused n i l (omega (arith, h))) ∙ e))
  ])

  module _ (sound : link_sound n l ≡ true) where
    pub used_place : i < n - 1 → true ≡ place_sound n i l
    used_place h = sym (place_used n i l h ∙ sound)

    module _ {c : ℕ} (count : c ≡ used l) (past : n - 1 ≤ i) where
      pub filled_place : c ≢ 0 → false ≡ place_sound n i l
      filled_place some = implied {a = eqb c 0} (λ e. eq-eqb c 0 (count ∙ used_none l (empty_parts l (sym (place_unused n i l past) ∙ e))))
          (ne_eqb c 0 some)

      pub empty_held_place : c ≡ 0 → eqb l.held 0 ≡ place_sound n i l
      empty_held_place none = empty_held n l sound (sym count ∙ none) ∙ sym (place_unused n i l past)

-- An idle record is canonical: a sound one equals the record that is made from n, t and the own identifier, since every place not in use is
-- zero. And such a record is sound, so that it is turned down by numbers 1 to 3 alone.
use Rattle.std.specs.Prelude.{ℕ, ◌-◌, ◌<◌, ◌≡◌, true, false, length, replicate}
use Rattle.std.proofs.Math.Path.{refl, ap}
use Rattle.std.proofs.Common.{sym, ◌∙◌, arith, eqb-true, ne_eqb, leb-true, ext_get_or}
use Rattle.std.proofs.Math.Bool.{not}
use mathlib.Core.List.{List, [], ◌∷◌}
use Rattle.std.proofs.Math.Decide.{dec_lt}
use Rattle.std.proofs.lemmas.Bool.{lt-leb}
use Rattle.std.proofs.Math.ListN.{get_or-replicate}
use Rattle.limits.specs.Limits.{most_bases, most_links, list_room}
use Rattle.lists.specs.Choice.{choose, and}
use Rattle.lists.specs.Choice.Laws.{first_last, passes}
use Rattle.lists.specs.Lists.{nonzero, distinct, zeros, member}
use Rattle.lists.specs.Lists.Zeros.{zeros_are}
use Rattle.counting.specs.Sums.{bit}
use Rattle.counting.specs.Sums.Bounds.{all_each}
use Rattle.protocol.specs.declared.Link.{Link}
use Rattle.protocol.specs.declared.Base.{Base}
use Rattle.protocol.specs.Links.{no_link, announces, verifies_of, used}
use Rattle.protocol.specs.Record.{link_at, link_count, certified}
use Rattle.protocol.proofs.Record.Laws.{link_same, base_same, link_room}
use Rattle.protocol.proofs.Record.Announced.{announced_none}
use Rattle.protocol.specs.Record.Memory.{SizedLink, Sized}
use Rattle.protocol.specs.Sound.{held_sound, link_empty, link_sound, place_sound, links_empty, idle, stopped}
use Rattle.protocol.specs.Sound.{final_sound, idle_sound, sound, setting_refusal, record_refusal, empty_link, idle_base}
use Rattle.protocol.proofs.Sound.Laws.{EmptyParts, sound_parts, parts_sound, idle_unsent, idle_place}
use Rattle.protocol.proofs.Sound.Laws.{final_running, record_passed, place_used, place_unused, parts_link}

-- ---- a sound idle record is the canonical one
zeros_of : (l : List ℕ) (k : ℕ) → zeros l ≡ true → length l ≡ k → l ≡ replicate k 0
zeros_of l k e h = zeros_are l e ∙ ap (λ (j : ℕ). replicate j 0) h

empty_canonical : (l : Link) → SizedLink l → EmptyParts l → l ≡ empty_link
empty_canonical l S E = link_same E.announce (zeros_of l.verifies list_room E.verifies S.verifies)
    (zeros_of l.list most_bases E.list S.list) E.count E.held

idle_state_lem : (b : Base) → idle b ≡ true → b.state ≡ 0
unfolding idle
idle_state_lem b e = eqb-true b.state 0 e

pub idle_not_stopped : (b : Base) → idle b ≡ true → stopped b ≡ false
unfolding stopped
idle_not_stopped b e = lt-leb 2 b.state (omega (arith, idle_state_lem b e))

pub stopped_not_idle : (b : Base) → stopped b ≡ true → idle b ≡ false
unfolding stopped idle
stopped_not_idle b e = ne_eqb b.state 0 (λ q. omega (arith, leb-true 2 b.state e, q))

pub idle_canonical : (b : Base) → Sized b → record_refusal b ≡ 0 → idle b ≡ true → b ≡ idle_base b.n b.t b.own
unfolding idle_base link_at
idle_canonical b S e off =
    let P = sound_parts b (record_passed b e).sound in
    base_same refl refl (idle_state_lem b off) (idle_unsent b P.idle off) refl
    (zeros_of b.final_list most_bases (final_running b P.final (idle_not_stopped b off)) S.final)
    (ext_get_or no_link b.links (replicate most_links empty_link) S.links
    (λ i h.
    let l : i < most_links = omega (arith, S.links) in
    empty_canonical (link_at b i) (S.each i l) (idle_place b P.idle off i l) ∙ sym (get_or-replicate most_links i empty_link no_link l)))

-- ---- the canonical one is sound
module _ (n t own : ℕ) where
  idle_link : (i : ℕ) → i < most_links → link_at (idle_base n t own) i ≡ empty_link
  unfolding idle_base link_at
  idle_link i h = get_or-replicate most_links i empty_link no_link h

  idle_silent : (i : ℕ) → i < most_links → announces (link_at (idle_base n t own) i) ≡ false
  unfolding announces
  idle_silent i h = ap announces (idle_link i h)

  empty_sound : (i : ℕ) → place_sound n i empty_link ≡ true
  empty_sound i = elim (dec_lt i (n - 1)) [
    | yes h ↦ place_used n i empty_link h ∙ in_use
    | no h ↦ place_unused n i empty_link (omega (arith, h)) ∙ empty
  ]
    where
      in_use : link_sound n empty_link ≡ true
      in_use = parts_link (unfold used verifies_of announces bit nonzero distinct zeros and held_sound choose in record {
        room = omega arith;
        above_zero = refl;
        apart = refl;
        behind = refl;
        held = refl;
      })

      empty : link_empty empty_link ≡ true
      empty = unfold link_empty zeros and in refl

  idle_places : (i : ℕ) → i < most_links → place_sound n i (link_at (idle_base n t own) i) ≡ true
  idle_places i h = ap (place_sound n i) (idle_link i h) ∙ empty_sound i

  idle_empty : links_empty (idle_base n t own) ≡ true
  unfolding links_empty link_empty zeros and
  idle_empty = all_each most_links (λ i. link_empty (link_at (idle_base n t own) i)) (λ i h. ap link_empty (idle_link i h))

  idle_certified : certified (idle_base n t own) ≡ own ∷ []
  unfolding certified idle_base
  idle_certified = ap (λ (l : List ℕ). own ∷ l) (announced_none (link_count (idle_base n t own)) (link_at (idle_base n t own))
      (λ i h. idle_silent i (omega (arith, link_room (idle_base n t own)))))

  pub idle_sound_lem : sound (idle_base n t own) ≡ true
  idle_sound_lem = parts_sound (record {
    state = unfold idle_base in omega arith;
    sent = unfold idle_base in omega arith;
    place = unfold idle_base in idle_places;
    apart = ap distinct idle_certified ∙ (unfold distinct member and in refl);
    final = unfold final_sound stopped idle_base choose zeros and in refl;
    idle = unfold idle_sound idle idle_base choose and in idle_empty;
  })

  pub idle_refusal : record_refusal (idle_base n t own) ≡ setting_refusal n t own
  unfolding record_refusal idle_base
  idle_refusal = first_last (setting_refusal n t own) (passes 4 (ap not idle_sound_lem) refl)

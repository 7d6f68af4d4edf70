-- The rules of a sound record, each link looked at once: the links of an idle base are those of a net of one, all empty, and an empty
-- link is sound in any net.
use Prim.Native.Nat.{ℕ}
use mathlib.Core.Path.{◌≡◌, refl, sym, ap, ap₂, ◌∙◌}
use mathlib.Core.Bool.{Bool, true, false}
use native.Mathlib.Omega.{arith}
use borrow.Author.Tests.{eqb-true, le-leb}
use lib.Dec.{eqb, leb}
use Rattle.limits.specs.Limits.{most_links}
use Rattle.lists.specs.Choice.{choose, and}
use Rattle.lists.specs.Choice.Laws.{and_no}
use Rattle.counting.specs.Sums.{all}
use Rattle.counting.specs.Sums.Laws.{all_at}
use Rattle.counting.specs.Sums.Bounds.{all_each}
use Rattle.protocol.specs.declared.Base.{Base}
use Rattle.protocol.specs.Record.{link_at}
use Rattle.protocol.specs.Sound.{place_sound, links_sound, links_empty, idle, announces_sound, final_sound, idle_sound, sound}
use Rattle.protocol.proofs.Sound.Laws.{place_unused}
use Rattle.link_soundness.proofs.Empty.{empty_place}

module _ (b : Base) where
  empties : links_empty b ≡ true → links_sound b ≡ true
  unfolding links_empty links_sound
  empties e = all_each most_links _ (λ i h. empty_place b.n i (link_at b i) (all_at most_links _ e i h))

  alone : all most_links (λ i. place_sound 1 i (link_at b i)) ≡ links_empty b
  unfolding links_empty
  alone = λ j. all most_links (λ i. place_unused 1 i (link_at b i) (omega arith) j)

-- ---- the rules in another order
and_yes : (a : Bool) → and a true ≡ a
unfolding and
and_yes true = refl
and_yes false = refl

reorder : (few none links empty announces final : Bool) → (none ≡ true → few ≡ true) → (empty ≡ true → links ≡ true)
    → and few (and links (and announces (and final (and none empty)))) ≡ and none (and empty (and announces final))
unfolding and
reorder few false links empty announces final p q = rw (and_no, and_no, and_no, and_no) refl
reorder few true links false announces final p q = rw (and_no, and_no, and_no, and_no) refl
reorder few true links true announces final p q =
    ap₂ (λ (x y : Bool). and x (and y (and announces (and final true)))) (p refl) (q refl) ∙ ap (and announces) (and_yes final)

pub sound_flat : (b : Base)
    → sound b ≡ and (leb b.state 3)
    (and (choose (eqb b.state 0) (eqb b.sent 0) (leb b.sent 1))
    (and (all most_links (λ i. place_sound (choose (eqb b.state 0) 1 b.n) i (link_at b i)))
    (and (announces_sound b) (final_sound b))))
unfolding sound idle_sound idle choose links_sound
sound_flat b = ap (and (leb b.state 3)) (go (eqb b.state 0))
  where
    go : (t : Bool)
        → and (leb b.sent 1)
        (and (links_sound b) (and (announces_sound b) (and (final_sound b) (choose t (and (eqb b.sent 0) (links_empty b)) true))))
        ≡ and (choose t (eqb b.sent 0) (leb b.sent 1))
        (and (all most_links (λ i. place_sound (choose t 1 b.n) i (link_at b i))) (and (announces_sound b) (final_sound b)))
    go true =
        reorder (leb b.sent 1) (eqb b.sent 0) (links_sound b) (links_empty b) (announces_sound b) (final_sound b)
        (λ e. le-leb b.sent 1 (omega (arith, eqb-true b.sent 0 e))) (empties b)
        ∙ ap (λ (x : Bool). and (eqb b.sent 0) (and x (and (announces_sound b) (final_sound b)))) (sym (alone b))
    go false = ap (λ (x : Bool). and (leb b.sent 1) (and (links_sound b) (and (announces_sound b) x))) (and_yes (final_sound b))

-- Links counted one after another, by any test: what such a loop has at its start, after one link more, and at its end. The tally of an
-- identifier, the tally of a list and the number of Correct-Finals are counted so.
use Prim.Native.Nat.{ℕ, ◌+◌, ◌-◌, ◌≤◌, ◌<◌, min}
use Rattle.std.specs.Prelude.{◌≡◌, Bool}
use Rattle.std.proofs.Math.Path.{refl, ap}
use Rattle.std.proofs.Common.{◌∙◌, arith}
use Rattle.limits.specs.Limits.{most_links}
use Rattle.counting.specs.Sums.{bit, sum}
use Rattle.counting.specs.Sums.Bounds.{bit_most}
use Rattle.counting.specs.Sums.Loops.{count_turn}
use Rattle.protocol.specs.declared.Base.{Base}
use Rattle.protocol.specs.declared.Link.{Link}
use Rattle.protocol.specs.Record.{link_at, link_count, links}

-- of k links those at the places below i have been looked at
pub record Counted (b : Base) (p : Link → Bool) (k i count : ℕ) : Type 0 where
  pub place : i ≤ k
  pub few : count ≤ i
  pub is : count ≡ sum i (λ j. bit (p (link_at b j)))

module _ (b : Base) (p : Link → Bool) where
  pub counted_none : (k : ℕ) → Counted b p k 0 0
  unfolding sum
  counted_none k = record { place = omega arith; few = omega arith; is = refl }

  pub counted_next : {k i count next term : ℕ} → Counted b p k i count → i < k → next ≡ count + term → term ≡ bit (p (link_at b i))
      → Counted b p k (i + 1) next
  counted_next {k} {i} {count} {next} {term} C h n e = record {
    place = omega arith;
    few = omega (arith, C.few, bit_most (p (link_at b i)));
    is = n ∙ count_turn (λ j. p (link_at b j)) i count term C.is e;
  }

  pub counted_all : {k i count : ℕ}
      → Counted b p k i count → k ≤ i → k ≡ min (b.n - 1) most_links → (count ≡ links b p) × (count ≤ most_links)
  unfolding links link_count
  counted_all {k} {i} {count} C h e =
      let all : i ≡ min (b.n - 1) most_links = omega (arith, C.place) in
      (C.is ∙ ap (λ (m : ℕ). sum m (λ j. bit (p (link_at b j)))) all, omega (arith, C.few))

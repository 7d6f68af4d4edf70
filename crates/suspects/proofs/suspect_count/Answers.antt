-- `suspects::suspect_count` meets its contract. Invariants: the count is that of the pairs among the places below i and of
-- those with the own identifier; within, it has grown by the suspect pairs of the link at place i with those below j.
use Prim.Native.Nat.{ℕ, ◌-◌, ◌+◌}
use mathlib.Core.Path.{◌≡◌, refl, ap, ◌∙◌}
use native.Mathlib.Omega.{arith}
use Rattle.suspects.proofs.Pairs.{pairs_grow}
use Rattle.counting.specs.Sums.Loops.{sum_grows}
use Rattle.protocol.specs.Record.{link_at, link_count, links, suspect_pair, suspect_own, suspects}
use Rattle.counting.specs.Sums.{bit, pairs}
use Rattle.counting.specs.Sums as Sums
use Rattle.suspects.proofs.suspect_count.Goals as goal

pub loop-i-init : goal.loop-i-init
unfolding Sums.sum
loop-i-init c = (omega arith, (omega arith, refl))

pub bounds-base-i : goal.bounds-base-i
bounds-base-i c = omega (arith, c.links_in-k.ensures)

pub overflow_add-count : goal.overflow_add-count
overflow_add-count c = omega (arith, c.one-count.ensures)

pub loop-j-init : goal.loop-j-init
unfolding Sums.sum
loop-j-init c = (omega arith, (omega arith, omega arith))

pub bounds-base-j : goal.bounds-base-j
bounds-base-j c = omega (arith, c.links_in-k.ensures)

pub overflow_add-count-in-loop-j : goal.overflow_add-count-in-loop-j
overflow_add-count-in-loop-j c = omega (arith, c.one-count-in-loop-j.ensures, c.one-count.ensures, c.loop-i.invariant)

pub loop-j-preserved : goal.loop-j-preserved
unfolding link_at
loop-j-preserved c = let b = c.args.base in let o = c.one-count-in-loop-j.ensures in (
  omega arith,
  (
    omega (arith, o),
    sum_grows (λ k. bit (suspect_pair (link_at b c.loop-i.i) (link_at b k)))
        c.loop-j.j _ c.loop-j.count c.one-count-in-loop-j.result c.loop-j.invariant.1.1 (o.0 ∙ ap bit c.suspect_pair.ensures),
  ),
)

pub loop-i-preserved : goal.loop-i-preserved
unfolding link_at
loop-i-preserved c = let b = c.args.base in let o = c.one-count.ensures in
    let own = o.0 ∙ ap bit c.suspect_own.ensures in (
      omega arith,
      (
        omega (arith, o, c.links_in-k.ensures),
        pairs_grow (λ i j. bit (suspect_pair (link_at b i) (link_at b j))) (λ i. bit (suspect_own b.own (link_at b i)))
            c.loop-i.i c.loop-j.j c.loop-i.count _ c.loop-j.count c.loop-i.invariant.1.1 own c.loop-j.invariant.1.1 (omega arith),
      ),
    )

pub returns : goal.returns
unfolding suspects pairs links link_count
returns c = let b = c.args.base in let e : c.loop-i.i ≡ link_count b = unfold link_count in omega (arith, c.links_in-k.ensures) in
    c.loop-i.invariant.1.1 ∙ ap (λ (i : ℕ). Sums.sum i (λ m. Sums.sum m (λ j. bit (suspect_pair (link_at b m) (link_at b j))))
    + Sums.sum i (λ m. bit (suspect_own b.own (link_at b m)))) e

-- `certified::certified_ids` meets its contract. Invariant: all but the identifiers announced at the first i places stand in the array.
use Rattle.certified.specs.Listed.{Gathered, gather_first, gather_taken, gather_left, gathered_all}
use Rattle.protocol.specs.Record.{link_at, link_count}
use Rattle.lists.specs.Lists.{pad_to}
use native.Mathlib.Omega.{arith}
use mathlib.Core.Path.{◌≡◌, refl, sym, subst, ◌∙◌}
use Prim.Native.Nat.{ℕ}
use Rattle.certified.proofs.certified_ids.Goals as goal

pub loop-i-init : goal.loop-i-init
unfolding pad_to
loop-i-init c = let b = c.args.base in let e : c.links_in-i.result ≡ link_count b = unfold link_count in c.links_in-i.ensures in
    (gather_first b _ 1 _ e refl refl, omega (arith, c.links_in-i.ensures))

pub offset_bounds-ids-count : goal.offset_bounds-ids-count
offset_bounds-ids-count c = omega (arith, c.loop-i.invariant.0.room)

pub bounds-ids-count : goal.bounds-ids-count
bounds-ids-count c = omega (arith, c.loop-i.invariant.0.room)

pub overflow_add-count : goal.overflow_add-count
overflow_add-count c = omega (arith, c.loop-i.invariant.0.room)

pub loop-i-preserved-then-has_announce : goal.loop-i-preserved-then-has_announce
unfolding link_at
loop-i-preserved-then-has_announce c = (
  gather_taken c.args.base c.loop-i.ids c.loop-i.count c.loop-i.i (omega arith) c.loop-i.invariant.0
      (sym c.has_announce.ensures ∙ c.if-has_announce.true),
  omega arith,
)

pub loop-i-preserved : goal.loop-i-preserved
unfolding link_at
loop-i-preserved c = (
  gather_left c.args.base c.loop-i.ids c.loop-i.count c.loop-i.i (omega arith) c.loop-i.invariant.0
      (sym c.has_announce.ensures ∙ c.if-has_announce.false),
  omega arith,
)

pub returns : goal.returns
returns c = let b = c.args.base in let e : c.loop-i.i ≡ 0 = omega arith in
    gathered_all b c.loop-i.ids c.loop-i.count (subst (λ (i : ℕ). Gathered b i c.loop-i.ids c.loop-i.count) e c.loop-i.invariant.0)

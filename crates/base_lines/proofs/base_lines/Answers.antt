-- `base_lines::base_lines` meets its contract. Invariant: the lines of the bases 1 to b are put.
use native.Mathlib.Omega.{arith}
use borrow.Author.Tests.{leb-true}
use Prim.Native.Nat.{ℕ, ◌+◌, ◌*◌, ◌-◌, ◌≤◌}
use mathlib.Core.Bool.{true}
use mathlib.Core.Path.{◌≡◌, refl, sym, ap, ◌∙◌, subst}
use mathlib.Core.List.{◌++◌}
use lib.Dec.{leb}
use lib.ListN.{length}
use Rattle.limits.specs.Limits.{most_bases}
use Rattle.print.specs.Put.Laws.{put_none, put_as, put_then, put_fits, fits_put, not_put}
use Rattle.protocol.specs.declared.Base.{Base}
use Rattle.net.specs.Abstraction.{net_of, size}
use Rattle.schedule.specs.Report.{line_room, base_line, base_lines}
use Rattle.schedule.proofs.Report.Laws.{bases_none, bases_more}
use Rattle.stored_walk.specs.Reaching.{base_there}
use Rattle.base_lines.proofs.base_lines.Goals as goal

pub returns-then-not-has_room : goal.returns-then-not-has_room
returns-then-not-has_room c = let p = not_put (line_room * most_bases) _ _ _ (sym c.has_room.ensures ∙ c.if-not-has_room.true) in
    record { value = p.0; out_after = p.1; upper_bound = omega arith }

pub loop-b-init : goal.loop-b-init
unfolding size
loop-b-init c = (
  omega arith,
  (
    c.least-n.ensures,
    (
      omega (arith, c.least-n.ensures),
      (omega arith, (refl, put_as (sym (bases_none _)) (put_none _ _))),
    ),
  ),
)

pub offset_bounds-net-b : goal.offset_bounds-net-b
offset_bounds-net-b c = omega (arith, c.loop-b.invariant.1.1.0)

pub bounds-net-b : goal.bounds-net-b
bounds-net-b c = omega (arith, c.loop-b.invariant.1.1.0)

pub loop-b-preserved : goal.loop-b-preserved
loop-b-preserved c = let fits : leb (0 + line_room * most_bases) (length c.args.out.now) ≡ true =
    sym c.has_room.ensures ∙ c.if-not-has_room.false in
    let I = c.loop-b.invariant in
    let less = c.loop-b-test.true in
    let room = leb-true (0 + line_room * most_bases) (length c.args.out.now) fits in
    let P = put_fits line_room (omega (arith, I.1.1.0, I.1.1.1.0, I.1.1.1.1.0, less, room)) (
      c.base_line-at.ensures.value,
      c.base_line-at.ensures.out_after,
    ) in (
      omega (arith, less),
      (
        I.1.0,
        (
          I.1.1.0,
          (
            omega (arith, I.1.1.1.0, c.base_line-at.ensures.upper_bound),
            (
              c.base_line-at.auto.out ∙ I.1.1.1.1.0,
              put_as (ap (λ (x : Base). base_lines c.loop-b.b (net_of c.args.net) ++ base_line (c.loop-b.b + 1) x)
                  (base_there c.args.net c.loop-b.b (omega (arith, less, I.1.1.0)))
                  ∙ bases_more _ _) (put_then I.1.1.1.1.1 P),
            ),
          ),
        ),
      ),
    )

pub shape_of-out : goal.shape_of-out
shape_of-out c = c.loop-b.invariant.1.1.1.1.0

pub returns : goal.returns
returns c = let fits : leb (0 + line_room * most_bases) (length c.args.out.now) ≡ true = sym c.has_room.ensures ∙ c.if-not-has_room.false in
    let w = c.args.net in
    let I = c.loop-b.invariant in
    let e : c.loop-b.b ≡ size w = omega (arith, I.0, I.1.0, c.loop-b-test.false) in
    let P = put_as (ap (λ (k : ℕ). base_lines k (net_of w)) e) I.1.1.1.1.1 in
    let p = fits_put (line_room * most_bases) fits P in
    record { value = p.0; out_after = p.1; upper_bound = subst (λ (k : ℕ). c.loop-b.at ≤ line_room * k) e I.1.1.1.0 }

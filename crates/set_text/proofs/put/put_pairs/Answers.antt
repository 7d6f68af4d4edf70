-- `set_text::put::put_pairs` meets its contract. Invariant: the lines of the first i links are put.
use native.Mathlib.Omega.{arith}
use Prim.Native.Nat.{ℕ, ◌-◌}
use mathlib.Core.Path.{◌≡◌, refl, sym, ap, ◌∙◌}
use lib.ListN.{take}
use Rattle.print.specs.Put.Laws.{put_none, put_as, put_then, text_length}
use Rattle.faulty_sets.specs.Answers.{no_link_pair}
use Rattle.set_text.specs.Text.{pair_lines}
use Rattle.set_text.proofs.Text.Laws.{pairs_none, pairs_more}
use Rattle.set_text.proofs.put.put_pairs.Goals as goal

pub loop-i-init : goal.loop-i-init
loop-i-init c = (omega arith, omega arith, refl, put_as (sym pairs_none) (put_none _ _))

pub put_pair-end-requires : goal.put_pair-end-requires
put_pair-end-requires c =
    omega (arith, c.loop-i.invariant.0, c.loop-i.invariant.1, c.loop-i.invariant.2, c.loop-i-test.true, c.requires)

pub loop-i-preserved : goal.loop-i-preserved
loop-i-preserved c = (
  omega arith,
  omega (arith, c.loop-i.invariant.1, c.put_pair-end.ensures.upper_bound),
  text_length c.put_pair-end.ensures.put ∙ c.loop-i.invariant.2,
  put_as (pairs_more c.args.pairs c.loop-i.i no_link_pair (omega arith)) (put_then c.loop-i.invariant.3 c.put_pair-end.ensures.put),
)

pub shape_of-out : goal.shape_of-out
shape_of-out c = c.loop-i.invariant.2

pub returns : goal.returns
returns c = let e : c.loop-i.i ≡ c.args.count = omega arith in
    record {
      put = put_as (ap (λ (k : ℕ). pair_lines (take k c.args.pairs)) e) c.loop-i.invariant.3;
      upper_bound =
          omega (arith, c.loop-i.invariant.1, c.loop-i.invariant.0, c.requires);
    }

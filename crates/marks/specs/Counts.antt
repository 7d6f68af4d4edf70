-- The broadcasts that were not carried, counted one by one.
use Rattle.std.specs.Prelude.{ℕ, suc, ◌+◌, ◌≡◌, Bool, true, false}
use Rattle.std.proofs.Math.Path.{sym}
use Rattle.std.proofs.Common.{◌∙◌, add-zero, add-one}
use Rattle.std.proofs.Math.Bool.{not}
use Rattle.counting.specs.Sums.{bit, sum}
use Rattle.counting.specs.Sums.Loops.{count_turn}
use Rattle.node.specs.declared.Node.{Node}
use Rattle.node.specs.Node.{heard_by}

module _ (v : Node) (a i total : ℕ)
    {heard : Bool} (h : heard ≡ heard_by v a (i + 1)) (so_far : total ≡ sum i (λ j. bit (not (heard_by v a (suc j))))) where
  one : heard ≡ heard_by v a (suc i)
  one = rw add-one at h

  pub one_more : heard ≡ false → total + 1 ≡ sum (i + 1) (λ j. bit (not (heard_by v a (suc j))))
  unfolding bit
  one_more e = count_turn (λ j. not (heard_by v a (suc j))) i total 1 so_far (rw (sym one, e))

  pub none_more : heard ≡ true → total ≡ sum (i + 1) (λ j. bit (not (heard_by v a (suc j))))
  unfolding bit
  none_more e = sym (add-zero total) ∙ count_turn (λ j. not (heard_by v a (suc j))) i total 0 so_far (rw (sym one, e))

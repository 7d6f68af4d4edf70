-- The program's lines one after another are those of the walk, as long as a line's number has a next one.
use Prim.Native.Nat.{ℕ, zero, suc, ◌+◌, ◌≤◌}
use Rattle.std.specs.Prelude.{◌≡◌, refl, List}
use Rattle.std.proofs.Math.Path.{ap}
use Rattle.std.proofs.Common.{◌∙◌}
use native.Mathlib.Omega.{arith}
use Rattle.limits.specs.Limits.{most_bases}
use Rattle.net.specs.declared.StoredNet.{StoredNet}
use Rattle.schedule.specs.Walk.{next_line, repeat}
use Rattle.stored_walk.specs.State.{most_lines, replaying, line_after}
use Rattle.stored_walk.specs.State.Laws.{line_after_lem, next_one_line}

module _ (s : List ℕ) (first : StoredNet) where
  abbrev after_lines : ℕ → StoredNet
  after_lines k = repeat k (next_line replaying s) first

  pub record LinesWalked (k : ℕ) : Type 0 where
    pub is : repeat k (line_after s) first ≡ after_lines k
    pub bases : (after_lines k).n ≡ first.n
    pub lines : (after_lines k).line ≤ first.line + k

  pub lines_walked : (k : ℕ) → first.n ≤ most_bases → first.line + k ≤ most_lines → LinesWalked k
  unfolding repeat
  lines_walked zero few near = record { is = refl; bases = refl; lines = omega arith }
  lines_walked (suc k) few near =
      let W = lines_walked k few (omega arith) in
      let F = next_one_line s (after_lines k) in record {
        is = ap (line_after s) W.is ∙ line_after_lem s (after_lines k) (omega (arith, W.bases)) (omega (arith, W.lines));
        bases = F.0 ∙ W.bases;
        lines = omega (arith, W.lines, F.1);
      }

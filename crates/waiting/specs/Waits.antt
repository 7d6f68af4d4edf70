-- What waits between two bases, of the sender and the receiver.
use Rattle.std.specs.Prelude.{ℕ, suc, not, List, eqb, length}
use Rattle.lists.specs.Choice.{choose, or}
use Rattle.counting.specs.Sums.{bit, sum}
use Rattle.protocol.specs.Net.{Pair, good}
use Rattle.node.specs.declared.Node.{Node}
use Rattle.node.specs.Node.{log_of, heard_by}
pub mod Laws

unfoldable pub waiting_between : Node → Node → List Pair → ℕ → ℕ → ℕ
waiting_between v u faulty a b =
    choose (or (eqb a b) (not (good faulty a b))) 0 (sum (length (log_of v)) (λ i. bit (not (heard_by u a (suc i)))))

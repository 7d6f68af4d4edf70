-- What waits, counted pair by pair of bases.
use Rattle.std.specs.Prelude.{ℕ, suc, ◌+◌, ◌-◌, ◌≤◌, ◌<◌, ◌≡◌, ◌≢◌, Bool, true, false, List, length, get_or, eqb}
use Rattle.std.proofs.Math.Path.{refl, sym}
use Rattle.std.proofs.Common.{ap, ◌∙◌, arith, eq-eqb, ne_eqb}
use Rattle.std.proofs.Math.Bool.{not}
use Rattle.std.proofs.Math.Numerals.{add-one}
use Rattle.limits.specs.Limits.{most_bases}
use Rattle.lists.specs.Choice.Laws.{choose_yes, chosen_yes, chosen_no, or_first, or_second, or_neither}
use Rattle.counting.specs.Sums.{bit, sum}
use Rattle.counting.specs.Sums.Laws.{sum_mono, sum_same}
use Rattle.counting.specs.Sums.Bounds.{bit_most}
use Rattle.counting.specs.Sums.Loops.{sum_turn}
use Rattle.protocol.specs.Net.{Pair, good, waiting_from}
use Rattle.node.specs.declared.Node.{Node}
use Rattle.node.specs.Node.{most_broadcasts, log_of, heard_by}
use Rattle.node.specs.Node.Within.{is_within}
use Rattle.net.specs.declared.StoredNet.{StoredNet}
use Rattle.net.specs.Abstraction.{no_node, node_at, net_of, faulty_of}
use Rattle.waiting.specs.Waits.{waiting_between}

-- ---- between two bases
bits_most : (k : ℕ) (p : ℕ → Bool) → sum k (λ i. bit (p i)) ≤ k
bits_most k p = omega (arith, sum_mono k (λ i. bit (p i)) (λ i. 1) (λ i _. bit_most (p i)), sum_same k 1)

module _ (v u : Node) (faulty : List Pair) (a b : ℕ) where
  pub own_broadcasts : a ≡ b → 0 ≡ waiting_between v u faulty a b
  unfolding waiting_between
  own_broadcasts e = chosen_yes _ (or_first _ (eq-eqb a b e)) refl

  pub faulty_waits_none : {g : Bool} → g ≡ good faulty a b → g ≡ false → 0 ≡ waiting_between v u faulty a b
  unfolding waiting_between
  faulty_waits_none eg f = chosen_yes _ (or_second (eqb a b) (ap not (sym eg ∙ f))) refl

  pub on_a_good_link : {k r : ℕ} → k ≡ length (log_of v) → r ≡ sum k (λ i. bit (not (heard_by u a (suc i))))
      → a ≢ b → {g : Bool} → g ≡ good faulty a b → g ≡ true → r ≡ waiting_between v u faulty a b
  unfolding waiting_between
  on_a_good_link count total apart eg t = chosen_no _ (or_neither (ne_eqb a b apart) (ap not (sym eg ∙ t))) (total ∙ rw count)

pub total_most : (u : Node) (a : ℕ) {k r : ℕ} → r ≡ sum k (λ i. bit (not (heard_by u a (suc i)))) → k ≤ most_broadcasts
    → r ≤ most_broadcasts
total_most u a {k} e h = omega (arith, bits_most k (λ i. not (heard_by u a (suc i))))

-- ---- from one base, and from all
node_there : (w : StoredNet) (i : ℕ) → i < most_bases → node_at w (suc i) ≡ get_or w.nodes i no_node
unfolding node_at
node_there w i h = choose_yes _ _ (is_within {x = suc i} {most = most_bases} (omega arith) (omega arith))
    ∙ ap (λ (k : ℕ). get_or w.nodes k no_node) less
  where
    less : suc i - 1 ≡ i
    less = omega arith

pub pair_turn : (w : StoredNet) (a b total : ℕ) {r : ℕ}
    → a < most_bases → b < most_bases → total ≡ sum b (λ j. waiting_from (faulty_of w) (net_of w) (suc a) (suc j))
    → r ≡ waiting_between (get_or w.nodes a no_node) (get_or w.nodes b no_node) (faulty_of w) (a + 1) (b + 1)
    → total + r ≡ sum (b + 1) (λ j. waiting_from (faulty_of w) (net_of w) (suc a) (suc j))
pair_turn w a b total {r} ha hb e er = sum_turn (λ j. waiting_from (faulty_of w) (net_of w) (suc a) (suc j)) b total r e (er ∙ same)
  where
    same : waiting_between (get_or w.nodes a no_node) (get_or w.nodes b no_node) (faulty_of w) (a + 1) (b + 1)
        ≡ waiting_from (faulty_of w) (net_of w) (suc a) (suc b)
    same = unfold waiting_between waiting_from net_of in rw (add-one a, add-one b, sym (node_there w a ha), sym (node_there w b hb))

pub base_turn : (w : StoredNet) (n a total : ℕ) {r : ℕ}
    → total ≡ sum a (λ i. sum n (λ j. waiting_from (faulty_of w) (net_of w) (suc i) (suc j)))
    → r ≡ sum n (λ j. waiting_from (faulty_of w) (net_of w) (suc a) (suc j))
    → total + r ≡ sum (a + 1) (λ i. sum n (λ j. waiting_from (faulty_of w) (net_of w) (suc i) (suc j)))
base_turn w n a total {r} e er = sum_turn (λ i. sum n (λ j. waiting_from (faulty_of w) (net_of w) (suc i) (suc j))) a total r e er

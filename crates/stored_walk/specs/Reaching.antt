-- One line of events on the two bases that it names, and that storing the base that it reaches gives the net after the line.
use Rattle.std.specs.Prelude.{ℕ, ◌+◌, ◌-◌, ◌≤◌, ◌<◌, ◌≡◌, true, get_or, set, drop}
use Rattle.std.proofs.Math.Path.{refl, sym, ap}
use Rattle.std.proofs.Common.{ap₂, ◌∙◌, subst, arith}
use mathlib.Core.List.{List}
use Rattle.limits.specs.Limits.{most_bases, output_room}
use Rattle.lists.specs.Choice.{choose}
use Rattle.lists.specs.Choice.Laws.{choose_yes}
use Rattle.hexadecimal.specs.Hex.{hex_bytes}
use Rattle.lines.specs.declared.event.Line.{Line}
use Rattle.lines.specs.declared.event.Line.TheVariants.{Start, Carry, Forge, Wrong}
use Rattle.lines.specs.Lines.{is_base, event_line}
use Rattle.lines.specs.Lines.Laws.{net_base_range, two_range}
use Rattle.lines.specs.Lines.Found.{EventFound, event_found}
use Rattle.protocol.specs.Steps as Steps
use Rattle.protocol.specs.Net.{Pair, Event, starts, carry, forge, at, event_refusal}
use Rattle.node.specs.declared.Node.{Node}
use Rattle.node.specs.Node.{in_range}
use Rattle.node.specs.Node as Nodes
use Rattle.node.specs.Node.Within.{is_within}
use Rattle.net.specs.declared.StoredNet.{StoredNet}
use Rattle.net.specs.Abstraction.{no_node, empty_node, node_at, with_node, with_nodes, net_of, faulty_of}
use Rattle.events.specs.declared.Reached.{Reached}
use Rattle.events.specs.Events.{moved, carried_to, forged_to}
use Rattle.events.specs.Events.Laws.{set_self, reached_node, reached_stored, start_reaches, carry_reaches, forge_reaches}
use Rattle.stored_walk.specs.State.{line_moved}

-- the bases that a line names; of a line that has not the form, none
unfoldable pub sender_of : Line → ℕ
sender_of (Start b next) = b
sender_of (Carry a b k next) = a
sender_of (Forge a b at count next) = a
sender_of Wrong = 0

unfoldable pub receiver_of : Line → ℕ
receiver_of (Start b next) = b
receiver_of (Carry a b k next) = b
receiver_of (Forge a b at count next) = b
receiver_of Wrong = 0

-- where base b stands
unfoldable pub node_place : ℕ → ℕ
node_place b = choose (in_range b most_bases) (b - 1) 0

-- the base that the line reaches, as the line leaves it, and the number by which the line is turned down
unfoldable pub reached_by : List ℕ → Node → Node → List Pair → Line → Reached
reached_by s v u faulty (Start b next) = record { refusal = 0; node = Nodes.node_after u (Steps.start u.base output_room) }
reached_by s v u faulty (Carry a b k next) = carried_to v u faulty a b k
reached_by s v u faulty (Forge a b at count next) = forged_to u faulty a b (hex_bytes count (drop at s))
reached_by s v u faulty Wrong = record { refusal = 13; node = u }

-- ---- in the net
abbrev pub stored : StoredNet → ℕ → Node → StoredNet
stored w i v = with_nodes w (set w.nodes i v)

abbrev standing : StoredNet → ℕ → Node
standing w b = get_or w.nodes (node_place b) no_node

module _ (w : StoredNet) (few : w.n ≤ most_bases) where
  in_net : (b : ℕ) → is_base w.n b ≡ true → in_range b most_bases ≡ true
  in_net b e = let r = net_base_range w.n b e in is_within r.0 (omega arith)

  place_is : (b : ℕ) → in_range b most_bases ≡ true → node_place b ≡ b - 1
  unfolding node_place
  place_is b B = choose_yes _ _ B

  node_there : (b : ℕ) → in_range b most_bases ≡ true → standing w b ≡ node_at w b
  node_there b B = ap (λ (i : ℕ). get_or w.nodes i no_node) (place_is b B)
      ∙ (unfold node_at in sym (choose_yes (get_or w.nodes (b - 1) no_node) (empty_node w.n w.t) B))

  stored_there : (b : ℕ) (v : Node) → in_range b most_bases ≡ true → stored w (node_place b) v ≡ with_node w b v
  stored_there b v B = ap (λ (i : ℕ). stored w i v) (place_is b B) ∙ (unfold with_node in sym (choose_yes (stored w (b - 1) v) w B))

  event_is : (e : Event) {r : Reached}
      → in_range (at e) most_bases ≡ true → r ≡ record { refusal = event_refusal (faulty_of w) (net_of w) e; node = reached_node w e }
      → record { refusal = r.refusal; net = stored w (node_place (at e)) r.node } ≡ moved w e
  unfolding moved
  event_is e B q = rw q (ap (λ (x : StoredNet). record { refusal = event_refusal (faulty_of w) (net_of w) e; net = x })
      (stored_there (at e) (reached_node w e) B ∙ reached_stored w e))

  line_is : (s : List ℕ) (p : ℕ) (x : Line) → EventFound w.n s p x
      → record {
        refusal = (reached_by s (standing w (sender_of x)) (standing w (receiver_of x)) (faulty_of w) x).refusal;
        net = stored
            w (node_place (receiver_of x)) (reached_by s (standing w (sender_of x)) (standing w (receiver_of x)) (faulty_of w) x).node;
      }
      ≡ line_moved s w x
  unfolding sender_of receiver_of reached_by line_moved at
  line_is s p (Start b next) T =
      let B = in_net b T.0 in
      let none : 0 ≡ event_refusal (faulty_of w) (net_of w) (starts b output_room) = unfold event_refusal in refl in
      event_is (starts b output_room)
      B (ap₂ (λ (r : ℕ) (v : Node). record { refusal = r; node = v }) none (rw (node_there b B) (start_reaches w b)))
  line_is s p (Carry a b k next) T =
      let t = two_range w.n a b T.0 in
      let A = in_net a t.0 in
      let B = in_net b t.1.0 in
      event_is (carry a b k output_room) B (rw (node_there a A, node_there b B) (carry_reaches w a b k))
  line_is s p (Forge a b i count next) T =
      let t = two_range w.n a b T.0 in
      let B = in_net b t.1.0 in
      event_is (forge a b (hex_bytes count (drop i s)) output_room)
      B (rw (node_there b B) (forge_reaches w a b (hex_bytes count (drop i s))))
  line_is s p Wrong T =
      ap (λ (l : List Node). record { refusal = 13; net = with_nodes w l }) (set_self w.nodes (node_place 0) no_node)

-- the line that the loop read
pub line_stored : (s : List ℕ) (w : StoredNet) (p : ℕ) (x : Line) {i j : ℕ} {r : Reached}
    → w.n ≤ most_bases → x ≡ event_line w.n s p → j ≡ node_place (sender_of x) → i ≡ node_place (receiver_of x)
    → r ≡ reached_by s (get_or w.nodes j no_node) (get_or w.nodes i no_node) (faulty_of w) x
    → record { refusal = r.refusal; net = stored w i r.node } ≡ line_moved s w x
line_stored s w p x few ex ej ei er =
    rw (er, ej, ei) (line_is w few s p x (subst (EventFound w.n s p) (sym ex) (event_found w.n s p)))

-- the record at a place
pub base_there : (w : StoredNet) (i : ℕ) → i < most_bases → (get_or w.nodes i no_node).base ≡ (net_of w).base (i + 1)
unfolding net_of node_at
base_there w i h = ap (λ (v : Node). v.base) (ap (λ (k : ℕ). get_or w.nodes k no_node) less
    ∙ sym (choose_yes _ _ (is_within {x = i + 1} {most = most_bases} (omega arith) (omega arith))))
  where
    less : i ≡ i + 1 - 1
    less = omega arith

-- An event does to the program's net what it does to the net that it stands for, if the base has room for what it broadcasts.
use Rattle.std.specs.Prelude.{ℕ, ◌+◌, ◌≤◌, ◌≡◌, ◌≢◌, Bool, List, ◌++◌, map, length, get_or}
use Rattle.std.proofs.Math.Path.{refl, ap}
use Rattle.std.proofs.Common.{sym, ap₂, ◌∙◌, eq-eqb, ne_eqb, eqb-true}
use Rattle.std.proofs.Math.Bool.{true, false}
use Rattle.std.proofs.Math.Decide.{ℕ_discrete}
use Rattle.std.proofs.Math.Dec.{eqb}
use Rattle.limits.specs.Limits.{most_bases}
use Rattle.lists.specs.Choice.{choose, and, or}
use Rattle.lists.specs.Choice.Laws.{choose_ind, and_no, and_fails}
use Rattle.frame.specs.Encoding.{encode}
use Rattle.protocol.specs.Steps.{Done}
use Rattle.protocol.specs.Net.{Event, starts, carry, forge, at, call, refusal, replaced, carried_after, net_after, happens}
use Rattle.protocol.specs.Net as Nets
use Rattle.protocol.proofs.Agreement.Inner.Moves.{replaced_here, replaced_other}
use Rattle.node.specs.declared.Node.{Node}
use Rattle.node.specs.Node.{most_broadcasts, in_range, mark_place, log_of, heard_by}
use Rattle.node.specs.Node as Nodes
use Rattle.node.specs.Node.Memory.{SizedNode}
use Rattle.net.specs.declared.StoredNet.{StoredNet}
use Rattle.net.specs.Abstraction.{node_at, with_node, net_of, faulty_of}
use Rattle.events.specs.Events.{marks, after}
use Rattle.representation.specs.Represents.{SizedNet}
use Rattle.representation.specs.Represents.Nodes.{after_base, after_heard, after_sized, after_log}
use Rattle.representation.specs.Represents.Marks.{marked_base, marked_log, marked_sized, marked_heard, heard_same}
use Rattle.representation.specs.Represents.Tables.{
  replaced_map,
  net_same,
  with_node_is,
  node_replaced,
  with_node_sized,
  with_node_links,
  node_at_sized,
}

-- ---- the marks of an event
marks_base : (e : Event) (v : Node) → (marks e v).base ≡ v.base
unfolding marks
marks_base (starts b room) v = refl
marks_base (carry a b k room) v = marked_base v a k
marks_base (forge a b bytes room) v = refl

marks_log : (e : Event) (v : Node) → log_of (marks e v) ≡ log_of v
unfolding marks
marks_log (starts b room) v = refl
marks_log (carry a b k room) v = marked_log v a k
marks_log (forge a b bytes room) v = refl

marks_sized : (e : Event) (v : Node) → SizedNode v → SizedNode (marks e v)
unfolding marks
marks_sized (starts b room) v Z = Z
marks_sized (carry a b k room) v Z = marked_sized v a k Z
marks_sized (forge a b bytes room) v Z = Z

-- a carry has a place for its mark
abbrev pub HasPlace : Event → Type 0
HasPlace (starts b room) = Unit {0}
HasPlace (carry a b k room) = (in_range a most_bases ≡ true) × (in_range k most_broadcasts ≡ true)
HasPlace (forge a b bytes room) = Unit {0}

after_hears : (v : Node) (d : Done) (x j : ℕ) → heard_by (Nodes.node_after v d) x j ≡ heard_by v x j
after_hears v d x j = heard_same v (Nodes.node_after v d) x j (λ _ _. ap (λ (h : List ℕ). get_or h (mark_place x j) 0) (after_heard v d))

carried_here : (w : StoredNet) (e : Event) (x j : ℕ) → HasPlace e → SizedNode (node_at w (at e))
    → heard_by (marks e (Nodes.node_after (node_at w (at e)) (call (net_of w) e))) x j ≡ carried_after (net_of w) e x (at e) j
unfolding marks at carried_after net_of
carried_here w (starts b room) x j P Z = after_hears (node_at w b) _ x j
carried_here w (carry a b k room) x j P Z =
    marked_heard _ a k P.0 P.1 (after_sized (node_at w b) _ Z) x j
    ∙ ap₂ (λ (s t : Bool). or (and (eqb x a) s) t)
    (sym (ap (λ (s : Bool). and s (eqb j k)) (eq-eqb b b refl) ∙ (unfold and in refl))) (after_hears (node_at w b) _ x j)
carried_here w (forge a b bytes room) x j P Z = after_hears (node_at w b) _ x j

carried_other : (W : Nets.Net) (e : Event) (x y j : ℕ) → y ≢ at e → carried_after W e x y j ≡ W.carried x y j
unfolding at carried_after
carried_other W (starts b room) x y j ne = refl
carried_other W (carry a b k room) x y j ne =
    ap (λ (s : Bool). or s (W.carried x y j)) (ap (and (eqb x a)) (sym (and_fails (eqb j k) (ne_eqb y b ne))) ∙ and_no (eqb x a))
    ∙ (unfold or in refl)
carried_other W (forge a b bytes room) x y j ne = refl

-- ---- an event that is not turned down
module _ (w : StoredNet) (e : Event) (Z : SizedNet w) (B : in_range (at e) most_bases ≡ true) where
  abbrev v : Node
  v = node_at w (at e)

  abbrev d : Done
  d = call (net_of w) e

  abbrev u : Node
  u = marks e (Nodes.node_after v d)

  sized_here : SizedNode v
  sized_here = node_at_sized w (at e) B Z

  node_now : (y : ℕ) → node_at (with_node w (at e) u) y ≡ replaced (at e) u (node_at w) y
  node_now = node_replaced w (at e) u B Z.nodes

  pub abstract_net_after : length (log_of v) + length d.says ≤ most_broadcasts
      → HasPlace e → net_of (with_node w (at e) u) ≡ net_after (net_of w) e
  unfolding net_of net_after
  abstract_net_after room P = net_same (net_of (with_node w (at e) u)) (net_after (net_of w) e) base log carried
    where
      base : (y : ℕ) → (node_at (with_node w (at e) u) y).base ≡ replaced (at e) d.base (λ z. (node_at w z).base) y
      base y = ap (λ (x : Node). x.base) (node_now y) ∙ replaced_map (λ (x : Node). x.base) (at e) u (node_at w) y
          ∙ ap (λ x. replaced (at e) x (λ z. (node_at w z).base) y) (marks_base e (Nodes.node_after v d) ∙ after_base v d)

      log : (y : ℕ) → log_of (node_at (with_node w (at e) u) y) ≡ replaced (at e) (log_of v ++ map encode d.says) (λ z. log_of
          (node_at w z)) y
      log y = ap log_of (node_now y) ∙ replaced_map log_of (at e) u (node_at w) y
          ∙ ap (λ x. replaced (at e) x (λ z. log_of (node_at w z)) y) (marks_log e (Nodes.node_after v d) ∙ after_log v d sized_here room)

      carried : (x y j : ℕ) → heard_by (node_at (with_node w (at e) u) y) x j ≡ carried_after (net_of w) e x y j
      carried x y j = ap (λ (z : Node). heard_by z x j) (node_now y) ∙ elim (ℕ_discrete y (at e)) [
        | yes p ↦ rw p (ap (λ (z : Node). heard_by z x j) (replaced_here (at e) u (node_at w)) ∙ carried_here w e x j P sized_here)
        | no p ↦ ap (λ (z : Node). heard_by z x j) (replaced_other (at e) u (node_at w) y p) ∙ sym (carried_other (net_of w) e x y j p)
      ]

  -- ---- any event
  abbrev number : ℕ
  number = refusal (faulty_of w) (net_of w) e

  pub abstract_after : (number ≡ 0 → (length ((net_of w).log (at e)) + length d.says ≤ most_broadcasts) × HasPlace e)
      → net_of (after w e) ≡ happens (faulty_of w) (net_of w) e
  unfolding after happens
  abstract_after H = go (eqb number 0) refl
    where
      go : (t : Bool) → eqb number 0 ≡ t → net_of (choose t (with_node w (at e) u) w) ≡ choose t (net_after (net_of w) e) (net_of w)
      go true q = unfold choose in (let h = H (eqb-true number 0 q) in abstract_net_after (unfold net_of in h.0) h.1)
      go false q = unfold choose in refl

  pub after_sized_net : SizedNet (after w e)
  unfolding after
  after_sized_net = choose_ind
      SizedNet _ (λ _. with_node_sized w (at e) u B Z (marks_sized e (Nodes.node_after v d) (after_sized v d sized_here))) (λ _. Z)

  pub after_links : faulty_of (after w e) ≡ faulty_of w
  unfolding after
  after_links = choose_ind (λ (x : StoredNet). faulty_of x ≡ faulty_of w) _ (λ _. with_node_links w (at e) u B) (λ _. refl)

-- n and t stay
pub after_n : (w : StoredNet) (e : Event) → in_range (at e) most_bases ≡ true → (after w e).n ≡ w.n
unfolding after
after_n w e B = choose_ind (λ (x : StoredNet). x.n ≡ w.n) _ (λ _. ap (λ (x : StoredNet). x.n) (with_node_is w (at e) _ B)) (λ _. refl)

pub after_t : (w : StoredNet) (e : Event) → in_range (at e) most_bases ≡ true → (after w e).t ≡ w.t
unfolding after
after_t w e B = choose_ind (λ (x : StoredNet). x.t ≡ w.t) _ (λ _. ap (λ (x : StoredNet). x.t) (with_node_is w (at e) _ B)) (λ _. refl)

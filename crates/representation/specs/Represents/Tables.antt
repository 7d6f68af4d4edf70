-- The bases of a net as a table: one is replaced, and every other stays as it was.
use Rattle.std.specs.Prelude.{ℕ, ◌-◌, ◌≤◌, ◌<◌, ◌≡◌, refl, ◌≢◌, Bool, true, false, List, length, get_or, set}
use Rattle.std.proofs.Math.Path.{sym, ap, fun_ext}
use Rattle.std.proofs.Common.{◌∙◌, subst, arith, length-set}
use Rattle.std.proofs.Math.Decide.{ℕ_discrete}
use Rattle.std.proofs.Math.Seq.{get_or-set_same, get_or-set_other}
use Rattle.limits.specs.Limits.{most_bases}
use Rattle.lists.specs.Choice.{choose}
use Rattle.lists.specs.Choice.Laws.{choose_yes, choose_same}
use Rattle.protocol.specs.declared.Base.{Base}
use Rattle.protocol.specs.Net.{replaced}
use Rattle.protocol.specs.Net as Nets
use Rattle.protocol.proofs.Agreement.Inner.Moves.{replaced_here, replaced_other}
use Rattle.node.specs.declared.Node.{Node}
use Rattle.node.specs.Node.{in_range}
use Rattle.node.specs.Node.Memory.{SizedNode}
use Rattle.node.specs.Node.Within.{within_range}
use Rattle.net.specs.declared.StoredNet.{StoredNet}
use Rattle.net.specs.Abstraction.{no_node, node_at, with_node, with_nodes, empty_node, faulty_of}
use Rattle.representation.specs.Represents.{SizedNet}

-- ---- tables
choose_map : {A B : Type 0} (f : A → B) (t : Bool) (a b : A) → f (choose t a b) ≡ choose t (f a) (f b)
unfolding choose
choose_map f true a b = refl
choose_map f false a b = refl

pub replaced_map : {A B : Type 0} (f : A → B) (x : ℕ) (a : A) (g : ℕ → A) (y : ℕ) → f (replaced x a g y) ≡ replaced x (f a) (λ z. f (g z)) y
unfolding replaced
replaced_map f x a g y = choose_map f _ a (g y)

-- nets are the same whose tables are
pub net_same : (U W : Nets.Net) → ((y : ℕ) → U.base y ≡ W.base y)
    → ((y : ℕ) → U.log y ≡ W.log y) → ((x y j : ℕ) → U.carried x y j ≡ W.carried x y j) → U ≡ W
net_same U W b l c =
    ap (λ (f : ℕ → Base). record { base = f; log = U.log; carried = U.carried }) (fun_ext b)
    ∙ ap (λ (f : ℕ → List (List ℕ)). record { base = W.base; log = f; carried = U.carried }) (fun_ext l)
    ∙ ap (λ (f : ℕ → ℕ → ℕ → Bool). record { base = W.base; log = W.log; carried = f }) (fun_ext (λ x. fun_ext (λ y. fun_ext (c x y))))

-- ---- a base is replaced
module _ (w : StoredNet) (b : ℕ) (v : Node) (B : in_range b most_bases ≡ true) where
  pub with_node_is : with_node w b v ≡ with_nodes w (set w.nodes (b - 1) v)
  unfolding with_node
  with_node_is = choose_yes _ _ B

  range : (1 ≤ b) × (b ≤ most_bases)
  range = within_range b most_bases B

  replaced_node : length w.nodes ≡ most_bases → (y : ℕ)
      → node_at (with_nodes w (set w.nodes (b - 1) v)) y ≡ replaced b v (node_at w) y
  unfolding node_at
  replaced_node Z y = elim (ℕ_discrete y b) [
    | yes p ↦ rw p (choose_yes _ _ B
        ∙ get_or-set_same w.nodes (b - 1) v no_node (omega (arith, range, Z)) ∙ sym (replaced_here b v (node_at w)))
    | no p ↦ choose_same (in_range y most_bases)
        (λ Y. get_or-set_other w.nodes (b - 1) (y - 1) v no_node (apart p (within_range y most_bases Y))) (λ _. refl)
        ∙ sym (replaced_other b v (node_at w) y p)
  ]
    where
      apart : y ≢ b → (1 ≤ y) × (y ≤ most_bases) → y - 1 ≢ b - 1
      apart p r e = p (omega (arith, range, e))

  pub node_replaced : length w.nodes ≡ most_bases → (y : ℕ) → node_at (with_node w b v) y ≡ replaced b v (node_at w) y
  node_replaced Z y = ap (λ (x : StoredNet). node_at x y) with_node_is ∙ replaced_node Z y

  pub with_node_sized : SizedNet w → SizedNode v → SizedNet (with_node w b v)
  with_node_sized Z S =
      subst SizedNet (sym with_node_is) (record { nodes = length-set w.nodes (b - 1) v ∙ Z.nodes; each = each; pairs = Z.pairs })
    where
      each : (i : ℕ) → i < most_bases → SizedNode (get_or (set w.nodes (b - 1) v) i no_node)
      each i h = elim (ℕ_discrete i (b - 1)) [
        | yes p ↦ rw p (subst SizedNode (sym (get_or-set_same w.nodes (b - 1) v no_node (omega (arith, range, Z.nodes)))) S)
        | no p ↦ subst SizedNode (sym (get_or-set_other w.nodes (b - 1) i v no_node p)) (Z.each i h)
      ]

  pub with_node_links : faulty_of (with_node w b v) ≡ faulty_of w
  unfolding faulty_of
  with_node_links = ap faulty_of with_node_is

pub node_at_sized : (w : StoredNet) (b : ℕ) → in_range b most_bases ≡ true → SizedNet w → SizedNode (node_at w b)
unfolding node_at
node_at_sized w b B Z = let r = within_range b most_bases B in
    subst SizedNode (sym (choose_yes (get_or w.nodes (b - 1) no_node) (empty_node w.n w.t) B)) (Z.each (b - 1) (omega arith))

-- The net that a header gives: each line of the header does to it what it does to the net.
use Prim.Native.Nat.{ℕ, zero, suc, ◌-◌, ◌≤◌, ◌<◌}
use Rattle.std.specs.Prelude.{◌≡◌, Bool, List, [], ◌∷◌, map, length, get_or, set, replicate}
use Rattle.std.proofs.Math.Path.{refl, ap}
use Rattle.std.proofs.Common.{sym, ◌∙◌, arith}
use Rattle.std.proofs.Math.Bool.{true, false}
use Rattle.limits.specs.Limits.{most_bases}
use Rattle.lists.specs.Choice.{choose}
use Rattle.lists.specs.Choice.Laws.{choose_yes}
use Rattle.protocol.specs.Sound.{idle_base}
use Rattle.protocol.specs.Net as Nets
use Rattle.protocol.specs.Agreement.Premise.{idle_net}
use Rattle.node.specs.declared.Node.{Node}
use Rattle.node.specs.Node.{in_range, with_base}
use Rattle.node.specs.Node.Within.{is_within, within_range}
use Rattle.schedule.specs.Header.{owned, id_refusal}
use Rattle.faulty_links.specs.Faulty.{no_faulty}
use Rattle.base_identifiers.specs.Identifiers.{named_ids, ids_net}
use Rattle.net.specs.declared.Header.{Header}
use Rattle.net.specs.Abstraction.{no_node, empty_node, node_at, with_node, with_nodes, net_of}
use Rattle.net.specs.Header.{made_net, named_net, idle_node, begun_net}

-- ---- `net n t`
map_same : {A B : Type 0} (f : A → B) (k : ℕ) (a : A) → map f (replicate k a) ≡ replicate k (f a)
map_same f zero a = refl
map_same {B = B} f (suc k) a = ap (λ (l : List B). f a ∷ l) (map_same f k a)

idle_empty : (n t : ℕ) → idle_node n t 0 ≡ empty_node n t
unfolding idle_node with_base empty_node
idle_empty n t = refl

pub begun_made : (n t at line : ℕ)
    → begun_net (record { n = n; t = t; ids = replicate most_bases 0; faulty = no_faulty; at = at; line = line; refusal = 0 })
    ≡ made_net n t at line
unfolding begun_net made_net
begun_made n t at line = ap (λ (l : List Node). record {
  n = n;
  t = t;
  faulty = no_faulty;
  nodes = l;
  at = at;
  line = line;
  refusal = 0;
}) (map_same (idle_node n t) most_bases 0 ∙ ap (replicate most_bases) (idle_empty n t))

-- ---- `id b v`
module _ (h : Header) (sized : length h.ids ≡ most_bases) where
  abbrev node : ℕ → Node
  node = idle_node h.n h.t

  map_set : (l : List ℕ) (i v : ℕ) → map node (set l i v) ≡ set (map node l) i (node v)
  map_set [] i v = refl
  map_set (x ∷ l) zero v = refl
  map_set (x ∷ l) (suc i) v = ap (λ (k : List Node). node x ∷ k) (map_set l i v)

  node_there : (i : ℕ) → i < most_bases → get_or (map node h.ids) i no_node ≡ node (get_or h.ids i 0)
  node_there i k = inside h.ids i (omega (arith, sized))
    where
      inside : (l : List ℕ) (i : ℕ) → i < length l → get_or (map node l) i no_node ≡ node (get_or l i 0)
      inside [] i k = absurd (omega arith)
      inside (x ∷ l) zero k = refl
      inside (x ∷ l) (suc i) k = inside l i (omega arith)

  begun_node : (b : ℕ) → in_range b most_bases ≡ true → node_at (begun_net h) b ≡ node (get_or h.ids (b - 1) 0)
  unfolding node_at begun_net
  begun_node b B = let r = within_range b most_bases B in choose_yes _ _ B ∙ node_there (b - 1) (omega arith)

  renamed : (b v : ℕ) → in_range b most_bases ≡ true → with_base (node_at (begun_net h) b) (idle_base h.n h.t v) ≡ node v
  renamed b v B = ap (λ (x : Node). with_base x (idle_base h.n h.t v)) (begun_node b B) ∙ (unfold with_base idle_node in refl)

  pub begun_named : (b v : ℕ)
      → with_nodes (begun_net h) (map node (named_ids h.ids b v)) ≡ named_net (begun_net h) b v
  unfolding named_net with_node named_ids begun_net
  begun_named b v = go (in_range b most_bases) refl
    where
      go : (t : Bool) → in_range b most_bases ≡ t
          → with_nodes (begun_net h) (map node (choose t (set h.ids (b - 1) v) h.ids))
          ≡ choose t (with_nodes (begun_net h)
          (set (map node h.ids) (b - 1) (with_base (node_at (begun_net h) b) (idle_base h.n h.t v))))
          (begun_net h)
      go true B = unfold choose in ap (with_nodes (begun_net h))
          (map_set h.ids (b - 1) v ∙ ap (set (map node h.ids) (b - 1)) (sym (renamed b v B)))
      go false B = unfold choose in refl

  -- ---- whether an identifier is new
  own_is : (b : ℕ) → 1 ≤ b → b ≤ most_bases → ((net_of (begun_net h)).base b).own ≡ ((ids_net h.ids).base b).own
  unfolding net_of idle_node with_base idle_base idle_net ids_net
  own_is b least most = ap (λ (x : Node). x.base.own) (begun_node b (is_within {x = b} {most = most_bases} least most))

  owned_is : (v k : ℕ) → k ≤ most_bases → owned k (net_of (begun_net h)) v ≡ owned k (ids_net h.ids) v
  unfolding owned
  owned_is v zero l = refl
  owned_is v (suc k) l = rw (own_is (suc k) (omega arith) l, owned_is v k (omega arith))

  pub id_number_is : (v : ℕ) → id_refusal (ids_net h.ids) v ≡ id_refusal (net_of (begun_net h)) v
  unfolding id_refusal
  id_number_is v = rw (owned_is v most_bases (omega arith)) refl

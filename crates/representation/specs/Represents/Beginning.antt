-- The program's net at the beginning: made with n and t, given its identifiers, told its faulty links.
use Rattle.std.specs.Prelude.{ℕ, zero, suc, ◌+◌, ◌-◌, ◌≤◌, ◌<◌, ◌≡◌, true, false, not}
use Rattle.std.specs.Prelude.{List, [], ◌∷◌, ◌++◌, map, eqb, length, get_or, take, set, replicate}
use Rattle.std.proofs.Math.Path.{refl, ap, ap₂, subst}
use Rattle.std.proofs.Common.{sym, ◌∙◌, add-one, arith, lt-ltb, length-take, length-set, take-suc-set}
use Rattle.std.proofs.Math.Decide.{ℕ_discrete}
use Rattle.std.proofs.Math.ListN.{length-replicate, get_or-replicate}
use Rattle.std.proofs.lemmas.List.{length-map}
use Rattle.limits.specs.Limits.{most_bases}
use Rattle.lists.specs.Choice.{and}
use Rattle.lists.specs.Choice.Laws.{choose_yes, choose_ind, and_no}
use Rattle.protocol.specs.Sound.{idle_base}
use Rattle.protocol.specs.Net.{replaced}
use Rattle.protocol.specs.Net as Nets
use Rattle.protocol.proofs.Agreement.Inner.Moves.{replaced_here, replaced_other}
use Rattle.protocol.specs.Agreement.Premise.{idle_net}
use Rattle.node.specs.declared.Node.{Node}
use Rattle.node.specs.Node.{most_broadcasts, mark_room, in_range, mark_place, log_of, heard_by, with_base, empty_frame}
use Rattle.node.specs.Node.Memory.{SizedNode}
use Rattle.node.specs.Node.Within.{is_within, within_range}
use Rattle.net.specs.declared.StoredNet.{StoredNet}
use Rattle.faulty_links.specs.declared.Faulty.{Faulty}
use Rattle.net.specs.Abstraction.{no_node, empty_node, node_at, with_node, net_of, faulty_of, size}
use Rattle.faulty_links.specs.Faulty.{pair_of, pairs_of, faulty_room, no_pair, marked_faulty}
use Rattle.net.specs.Header.{made_net, named_net, marked_net}
use Rattle.representation.specs.Represents.{Represents}
use Rattle.representation.specs.Represents.Nodes.{map_snoc}
use Rattle.representation.specs.Represents.Tables.{
  replaced_map,
  net_same,
  with_node_is,
  node_replaced,
  with_node_sized,
  with_node_links,
  node_at_sized,
}

-- ---- a base at the beginning
empty_sized : (n t : ℕ) → SizedNode (empty_node n t)
unfolding empty_node
empty_sized n t = record { frames = length-replicate most_broadcasts empty_frame; heard = length-replicate {A = ℕ} mark_room 0 }

zero_there : (k i : ℕ) → get_or {A = ℕ} (replicate k 0) i 0 ≡ 0
zero_there zero i = refl
zero_there (suc k) zero = refl
zero_there (suc k) (suc i) = zero_there k i

nothing_heard : (n t x j : ℕ) → heard_by (empty_node n t) x j ≡ false
unfolding heard_by empty_node
nothing_heard n t x j =
    ap (λ (m : ℕ). and (in_range x most_bases) (and (in_range j most_broadcasts) (not (eqb m 0)))) (zero_there mark_room (mark_place x j))
    ∙ ap (and (in_range x most_bases)) (and_no (in_range j most_broadcasts)) ∙ and_no (in_range x most_bases)

-- ---- `net n t`
module _ (n t at line : ℕ) where
  made_node : (y : ℕ) → node_at (made_net n t at line) y ≡ empty_node n t
  unfolding node_at made_net
  made_node y = choose_ind (λ (v : Node). v ≡ empty_node n t) (in_range y most_bases)
      (λ Y. let r = within_range y most_bases Y in get_or-replicate most_bases (y - 1) (empty_node n t) no_node (omega arith)) (λ _. refl)

  pub represents_made : Represents (made_net n t at line) n t [] (idle_net n t (λ b. 0))
  represents_made = record {
    record_n = unfold made_net in refl;
    record_t = unfold made_net in refl;
    links = unfold faulty_of pairs_of made_net in refl;
    abstracts = unfold net_of idle_net in net_same _ _ base log carried;
    sized = unfold made_net in record {
      nodes = length-replicate most_bases (empty_node n t);
      each = λ i h. subst SizedNode (sym (get_or-replicate most_bases i (empty_node n t) no_node h)) (empty_sized n t);
      pairs = length-replicate faulty_room no_pair;
    };
  }
    where
      base : (y : ℕ) → (node_at (made_net n t at line) y).base ≡ idle_base n t 0
      base y = ap (λ (v : Node). v.base) (made_node y) ∙ (unfold empty_node in refl)

      log : (y : ℕ) → log_of (node_at (made_net n t at line) y) ≡ []
      log y = ap log_of (made_node y) ∙ (unfold log_of empty_node in refl)

      carried : (x y j : ℕ) → heard_by (node_at (made_net n t at line) y) x j ≡ false
      carried x y j = ap (λ (v : Node). heard_by v x j) (made_node y) ∙ nothing_heard n t x j

-- ---- `id b v`
replaced_self : {A : Type 0} (b : ℕ) (f : ℕ → A) (a : A) → a ≡ f b → (y : ℕ) → replaced b a f y ≡ f y
replaced_self b f a e y = elim (ℕ_discrete y b) [
  | yes p ↦ rw p (replaced_here b a f ∙ e)
  | no p ↦ replaced_other b a f y p
]

pub represents_named : (b v : ℕ)
    → 1 ≤ b → b ≤ most_bases → {w : StoredNet} {n t : ℕ} {faulty : List Nets.Pair} {W : Nets.Net} → Represents w n t faulty W
    → Represents (named_net w b v) n t faulty (record { base = replaced b (idle_base n t v) W.base; log = W.log; carried = W.carried })
unfolding named_net
represents_named b v least most {w} {n} {t} {faulty} {W} S = record {
  record_n = ap (λ (x : StoredNet). x.n) (with_node_is w b u B) ∙ S.record_n;
  record_t = ap (λ (x : StoredNet). x.t) (with_node_is w b u B) ∙ S.record_t;
  links = with_node_links w b u B ∙ S.links;
  abstracts = abstracts_now
      ∙ ap (λ (U : Nets.Net). record { base = replaced b (idle_base n t v) U.base; log = U.log; carried = U.carried }) S.abstracts;
  sized = with_node_sized w b u B S.sized (unfold with_base in record { frames = old.frames; heard = old.heard });
}
  where
    B : in_range b most_bases ≡ true
    B = is_within least most

    u : Node
    u = with_base (node_at w b) (idle_base w.n w.t v)

    old : SizedNode (node_at w b)
    old = node_at_sized w b B S.sized

    node_now : (y : ℕ) → node_at (with_node w b u) y ≡ replaced b u (node_at w) y
    node_now = node_replaced w b u B S.sized.nodes

    base : (y : ℕ) → (node_at (with_node w b u) y).base ≡ replaced b (idle_base n t v) (λ z. (node_at w z).base) y
    base y = ap (λ (x : Node). x.base) (node_now y) ∙ replaced_map (λ (x : Node). x.base) b u (node_at w) y
        ∙ ap (λ x. replaced b x (λ z. (node_at w z).base) y)
        (unfold with_base in ap₂ (λ (i j : ℕ). idle_base i j v) S.record_n S.record_t)

    log : (y : ℕ) → log_of (node_at (with_node w b u) y) ≡ log_of (node_at w y)
    log y = ap log_of (node_now y)
        ∙ replaced_map log_of b u (node_at w) y ∙ replaced_self b (λ z. log_of (node_at w z)) (log_of u) (unfold with_base log_of in refl) y

    carried : (x y j : ℕ) → heard_by (node_at (with_node w b u) y) x j ≡ heard_by (node_at w y) x j
    carried x y j = ap (λ (z : Node). heard_by z x j) (node_now y) ∙ replaced_map (λ (z : Node). heard_by z x j) b u (node_at w) y
        ∙ replaced_self b (λ z. heard_by (node_at w z) x j) (heard_by u x j) (unfold with_base heard_by in refl) y

    abstracts_now : net_of (with_node w b u)
        ≡ record { base = replaced b (idle_base n t v) (net_of w).base; log = (net_of w).log; carried = (net_of w).carried }
    abstracts_now = unfold net_of in net_same _ _ base log carried

-- ---- `faulty a b`
pub represents_faulty : (a b : ℕ) {w : StoredNet} {n t : ℕ} {faulty : List Nets.Pair} {W : Nets.Net}
    → length faulty < faulty_room → Represents w n t faulty W
    → Represents (marked_net w a b) n t (faulty ++ (record { one = a; other = b } ∷ [])) W
represents_faulty a b {w} {n} {t} {faulty} {W} few S = record {
  record_n = S.record_n;
  record_t = S.record_t;
  links = links ∙ ap (λ (l : List Nets.Pair). l ++ (record { one = a; other = b } ∷ [])) S.links;
  abstracts = same ∙ S.abstracts;
  sized = record {
    nodes = S.sized.nodes;
    each = S.sized.each;
    pairs = ap (λ (x : Faulty). length x.pairs) is
        ∙ length-set f.pairs f.count (record { one = a; other = b }) ∙ S.sized.pairs;
  };
}
  where
    f : Faulty
    f = w.faulty

    more : Faulty
    more = record { count = f.count + 1; pairs = set f.pairs f.count (record { one = a; other = b }) }

    count : f.count < faulty_room
    count = omega (
      arith,
      few,
      ap length S.links,
      named,
      length-map (take f.count f.pairs) pair_of,
      length-take f.count f.pairs,
      S.sized.pairs,
    )
      where
        named : length (faulty_of w) ≡ length (map pair_of (take f.count f.pairs))
        named = unfold faulty_of pairs_of in refl

    is : marked_faulty f a b ≡ more
    is = unfold marked_faulty in choose_yes more f (lt-ltb f.count faulty_room count)

    same : net_of (marked_net w a b) ≡ net_of w
    same = unfold net_of node_at in refl

    links : faulty_of (marked_net w a b) ≡ faulty_of w ++ (record { one = a; other = b } ∷ [])
    links = unfold faulty_of in ap pairs_of is ∙ more_pairs
      where
        more_pairs : pairs_of more ≡ pairs_of f ++ (record { one = a; other = b } ∷ [])
        more_pairs = unfold pairs_of in rw (add-one f.count)
            (ap (map pair_of) (take-suc-set f.pairs f.count (record { one = a; other = b }) (omega (arith, count, S.sized.pairs)))
            ∙ map_snoc pair_of (take f.count f.pairs) (record { one = a; other = b })
            ∙ (unfold pair_of in refl))

-- ---- what is counted and printed of it
pub represents_size : {w : StoredNet} {n t : ℕ} {faulty : List Nets.Pair} {W : Nets.Net}
    → n ≤ most_bases → Represents w n t faulty W → size w ≡ n
unfolding size
represents_size h S = omega (arith, S.record_n)

pub represents_waiting : {w : StoredNet} {n t : ℕ} {faulty : List Nets.Pair} {W : Nets.Net}
    → n ≤ most_bases → Represents w n t faulty W → Nets.waiting (size w) (faulty_of w) (net_of w) ≡ Nets.waiting n faulty W
represents_waiting {w} {n} h S = ap (λ (k : ℕ). Nets.waiting k (faulty_of w) (net_of w)) (represents_size h S)
    ∙ ap₂ (λ (l : List Nets.Pair) (U : Nets.Net). Nets.waiting n l U) S.links S.abstracts

pub represents_number : {w : StoredNet} {n t : ℕ} {faulty : List Nets.Pair} {W : Nets.Net} (e : Nets.Event)
    → Represents w n t faulty W → Nets.event_refusal (faulty_of w) (net_of w) e ≡ Nets.event_refusal faulty W e
represents_number e S = ap₂ (λ (l : List Nets.Pair) (U : Nets.Net). Nets.event_refusal l U e) S.links S.abstracts

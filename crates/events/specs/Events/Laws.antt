-- An event in its parts: turned down by 16 to 18, turned down by the base's call, or reaching the base; and that storing the base
-- that it reached gives the net after the event.
use Rattle.std.specs.Prelude.{ℕ, zero, suc, ◌-◌, ◌<◌, ◌≤◌, ◌≡◌, ◌≢◌, Bool, length, get_or, set, eqb, ltb}
use Rattle.std.proofs.Math.Path.{refl, sym, ap, ap₂}
use Rattle.std.proofs.Common.{◌∙◌, arith, eq-eqb, ne_eqb, lt-ltb, le-ltb}
use Rattle.std.proofs.Math.Bool.{true, false}
use mathlib.Core.List.{List, [], ◌∷◌}
use Rattle.std.proofs.lemmas.Bool.{eqb-false}
use Rattle.limits.specs.Limits.{most_bases, output_room}
use Rattle.lists.specs.Choice.{choose, and, or, first}
use Rattle.lists.specs.Choice.Laws.{
  chosen_yes,
  chosen_no,
  and_both,
  and_no,
  and_fails,
  or_first,
  or_second,
  or_neither,
  first_none,
  first_given,
}
use Rattle.protocol.specs.Numbering.{link_to}
use Rattle.protocol.specs.Steps.{Done, start, arrival}
use Rattle.protocol.proofs.Steps.Answers.{start_refused, arrival_refused}
use Rattle.protocol.specs.Net.{Event, starts, carry, forge, at, good, broadcast, call, call_refusal, event_refusal, refusal}
use Rattle.protocol.specs.Net as Nets
use Rattle.node.specs.declared.Frame.{Frame}
use Rattle.node.specs.declared.Node.{Node}
use Rattle.node.specs.Node.{most_broadcasts, in_range, log_of, frame_at, written, heard_by, marked}
use Rattle.node_calls.specs.Calls.Laws.{after_unchanged}
use Rattle.node_arrivals.specs.Arrivals.{heard_burst}
use Rattle.node.specs.Node as Nodes
use Rattle.node.specs.Node.Log.{frame_written}
use Rattle.node.specs.Node.Within.{below_one}
use Rattle.net.specs.declared.StoredNet.{StoredNet}
use Rattle.net.specs.Abstraction.{no_node, empty_node, node_at, with_node, with_nodes, net_of, faulty_of}
use Rattle.carry_refusals.specs.Carry.{carry_refusal}
use Rattle.events.specs.declared.Reached.{Reached}
use Rattle.events.specs.Events.{marks, after, carry_call, carried_to, forged_to}

-- ---- a call that is turned down
module _ (u : Node) where
  start_down : call_refusal (start u.base output_room).answer ≢ 0 → Nodes.node_after u (start u.base output_room) ≡ u
  start_down n = after_unchanged u _ (start_refused u.base output_room n)

  arrival_down : (link : ℕ) (bytes : List ℕ) → call_refusal (arrival u.base link bytes output_room).answer ≢ 0
      → Nodes.node_after u (arrival u.base link bytes output_room) ≡ u
  arrival_down link bytes n = after_unchanged u _ (arrival_refused u.base link bytes output_room n)

unless_down : {n : ℕ} {x u : Node} → (n ≢ 0 → x ≡ u) → x ≡ choose (eqb n 0) x u
unless_down {n} {x} {u} f = go (eqb n 0) refl
  where
    go : (t : Bool) → eqb n 0 ≡ t → x ≡ choose t x u
    go true e = unfold choose in refl
    go false e = unfold choose in f (eqb-false n 0 e)

-- no broadcast's number
unnumbered : (v : Node) (a : ℕ) → marked v a 0 ≡ v
unfolding marked
unnumbered v a = sym (chosen_no _ (rw (below_one {x = 0} most_broadcasts (omega arith)) (and_no _)) refl)

-- a forged burst marks nothing
unmarked : (u : Node) (link : ℕ) (bytes : List ℕ) (a : ℕ)
    → heard_burst u link bytes a 0 ≡ Nodes.node_after u (arrival u.base link bytes output_room)
unfolding heard_burst
unmarked u link bytes a =
    let d = arrival u.base link bytes output_room in
    ap (λ (x : Node). choose (eqb (call_refusal d.answer) 0) x u) (unnumbered (Nodes.node_after u d) a)
    ∙ sym (unless_down (arrival_down u link bytes))

-- ---- a carry
module _ (v u : Node) (faulty : List Nets.Pair) (a b k : ℕ) {n : ℕ} (en : n ≡ carry_refusal v u faulty a b k) where
  pub carry_refused : n ≢ 0 → record { refusal = n; node = u } ≡ carried_to v u faulty a b k
  unfolding carried_to
  carry_refused some =
      let r = call_refusal (carry_call v u a b k).answer in
      ap₂ (λ (m : ℕ) (x : Node). record { refusal = m; node = x }) en
      (chosen_no (marked (Nodes.node_after u (carry_call v u a b k)) a k)
      (ne_eqb (first (carry_refusal v u faulty a b k) r) 0 (λ z. some (en ∙ sym (first_given r (λ y. some (en ∙ y))) ∙ z))) refl)

  module _ (none : n ≡ 0) {link : ℕ} (el : link ≡ link_to b a) {f : Frame} (ef : f ≡ frame_at v k) where
    is_call : arrival u.base link (written f) output_room ≡ carry_call v u a b k
    unfolding carry_call
    is_call = rw (el, ef) (ap (λ (bytes : List ℕ). arrival u.base (link_to b a) bytes output_room) (frame_written v k))

    pub carry_heard : {m : Node} → m ≡ heard_burst u link (written f) a k → record { refusal = 0; node = m } ≡ carried_to v u faulty a b k
    unfolding carried_to heard_burst
    carry_heard em =
        let z = sym en ∙ none in
        ap₂ (λ (r : ℕ) (x : Node). record { refusal = r; node = x }) (sym z)
        (em ∙ ap (λ (d : Done). choose (eqb (call_refusal d.answer) 0) (marked (Nodes.node_after u d) a k) u) is_call
        ∙ ap (λ (r : ℕ). choose (eqb r 0) (marked (Nodes.node_after u (carry_call v u a b k)) a k) u) (sym (first_none _ z)))

-- ---- a forgery
module _ (u : Node) (faulty : List Nets.Pair) (a b : ℕ) (bytes : List ℕ) {g : Bool} (eg : g ≡ good faulty a b) where
  -- the number, and the base, by whether the link is good
  abbrev forged : Bool → Reached
  forged t = record {
    refusal = choose t 18 0;
    node = choose (eqb (choose t 18 0) 0) (Nodes.node_after u (arrival u.base (link_to b a) bytes output_room)) u;
  }

  forged_by : (t : Bool) → g ≡ t → forged t ≡ forged_to u faulty a b bytes
  unfolding forged_to event_refusal
  forged_by t e = ap forged (sym e ∙ eg)

  pub forge_refused : g ≡ true → record { refusal = 18; node = u } ≡ forged_to u faulty a b bytes
  unfolding choose
  forge_refused t = forged_by true t

  pub forge_heard : g ≡ false → {link : ℕ} → link ≡ link_to b a → {m : Node} → m ≡ heard_burst u link bytes a 0
      → record { refusal = 0; node = m } ≡ forged_to u faulty a b bytes
  unfolding choose
  forge_heard f el em = ap (λ (x : Node). record { refusal = 0; node = x })
      (em ∙ ap (λ (l : ℕ). heard_burst u l bytes a 0) el ∙ unmarked u (link_to b a) bytes a)
      ∙ forged_by false f

-- ---- what they do to the net
-- storing what is there changes nothing
pub set_self : {A : Type 0} (l : List A) (i : ℕ) (d : A) → set l i (get_or l i d) ≡ l
set_self [] i d = refl
set_self (x ∷ l) zero d = refl
set_self (x ∷ l) (suc i) d = ap (λ (k : List _). x ∷ k) (set_self l i d)

stored_self : (w : StoredNet) (b : ℕ) → with_node w b (node_at w b) ≡ w
unfolding with_node node_at
stored_self w b = go (in_range b most_bases)
  where
    go : (t : Bool)
        → choose t (with_nodes w (set w.nodes (b - 1) (choose t (get_or w.nodes (b - 1) no_node) (empty_node w.n w.t)))) w ≡ w
    go true = unfold choose in ap (with_nodes w) (set_self w.nodes (b - 1) no_node)
    go false = unfold choose in refl

-- the base that an event reaches, as the event leaves it
unfoldable pub reached_node : StoredNet → Event → Node
reached_node w e =
    choose (eqb (refusal (faulty_of w) (net_of w) e) 0) (marks e (Nodes.node_after (node_at w (at e)) (call (net_of w) e))) (node_at w
    (at e))

pub reached_stored : (w : StoredNet) (e : Event) → with_node w (at e) (reached_node w e) ≡ after w e
unfolding reached_node after
reached_stored w e = go (eqb (refusal (faulty_of w) (net_of w) e) 0) (marks e (Nodes.node_after (node_at w (at e)) (call (net_of w) e)))
  where
    go : (t : Bool) (x : Node) → with_node w (at e) (choose t x (node_at w (at e))) ≡ choose t (with_node w (at e) x) w
    go true x = unfold choose in refl
    go false x = unfold choose in stored_self w (at e)

pub start_reaches : (w : StoredNet) (b : ℕ)
    → Nodes.node_after (node_at w b) (start (node_at w b).base output_room) ≡ reached_node w (starts b output_room)
unfolding reached_node refusal event_refusal at call marks net_of first choose
start_reaches w b = unless_down (start_down (node_at w b))

pub carry_reaches : (w : StoredNet) (a b k : ℕ) → carried_to (node_at w a) (node_at w b) (faulty_of w) a b k
    ≡ record { refusal = event_refusal (faulty_of w) (net_of w) (carry a b k output_room); node = reached_node w (carry a b k output_room) }
unfolding reached_node refusal event_refusal at call marks net_of carried_to carry_refusal carry_call broadcast
carry_reaches w a b k = refl

pub forge_reaches : (w : StoredNet) (a b : ℕ) (bytes : List ℕ) → forged_to (node_at w b) (faulty_of w) a b bytes ≡ record
    { refusal = event_refusal (faulty_of w) (net_of w) (forge a b bytes output_room); node = reached_node w (forge a b bytes output_room) }
unfolding reached_node refusal event_refusal at call marks net_of forged_to
forge_reaches w a b bytes = go (good (faulty_of w) a b)
  where
    u : Node
    u = node_at w b

    d : Done
    d = arrival u.base (link_to b a) bytes output_room

    go : (t : Bool) → ◌≡◌ {A = Reached} (record { refusal = choose t 18 0; node = choose (eqb (choose t 18 0) 0) (Nodes.node_after u d) u })
        (record {
          refusal = choose t 18 0;
          node = choose (eqb (first (choose t 18 0) (call_refusal d.answer)) 0) (Nodes.node_after u d) u;
        })
    go true = unfold choose first in refl
    go false = unfold choose first in ap (λ (x : Node). record { refusal = 0; node = x }) (unless_down (arrival_down u (link_to b a) bytes))

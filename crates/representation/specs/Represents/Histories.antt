-- A history goes on by one event, and the program's net goes on standing for it. That there is room for what a base broadcasts is
-- "A base broadcasts at most n + 3 in its life", which holds after every history.
use Prim.Native.Nat.{ℕ, zero, suc, ◌+◌, ◌≤◌}
use Rattle.std.specs.Prelude.{◌≡◌, refl, true, length}
use Rattle.std.proofs.Common.{sym, ap₂, ◌∙◌, subst, arith, eq-eqb, length-append}
use Rattle.std.proofs.Math.Path.{ap}
use mathlib.Core.List.{List, [], ◌∷◌, ◌++◌, map}
use Rattle.std.proofs.lemmas.List.{length-map}
use Rattle.limits.specs.Limits.{most_bases}
use Rattle.limits.specs.Refusals.{NetSize}
use Rattle.lists.specs.Choice.Laws.{choose_yes, first_passed}
use Rattle.frame.specs.Encoding.{encode}
use Rattle.protocol.specs.Net.{Pair, Event, starts, carry, forge, at, call, event_refusal, refusal, net_after, happens, run}
use Rattle.protocol.specs.Net as Nets
use Rattle.protocol.specs.Agreement.{BaseOf, Setting, Fresh, Proper}
use Rattle.protocol.proofs.Agreement.Longer.{run_more, proper_more}
use Rattle.protocol.proofs.Agreement.Besides.{orderly}
use Rattle.protocol.proofs.Agreement.Inner.Moves.{replaced_here}
use Rattle.protocol.proofs.Agreement.Outer.Refusals.{carry_names_broadcast, carry_has_number}
use Rattle.node.specs.Node.{most_broadcasts, in_range}
use Rattle.node.specs.Node.Within.{is_within}
use Rattle.net.specs.declared.StoredNet.{StoredNet}
use Rattle.net.specs.Abstraction.{net_of, faulty_of}
use Rattle.events.specs.Events.{after}
use Rattle.representation.specs.Represents.{Represents, History}
use Rattle.representation.specs.Represents.Steps.{HasPlace, abstract_after, after_sized_net, after_links, after_n, after_t}

-- ---- histories
pub history_begins : {n t : ℕ} {faulty : List Pair} {W : Nets.Net} → Setting n t faulty → Fresh n t W → History n t faulty W
unfolding run
history_begins {W = W} S F = record { beginning = W; events = []; setting = S; fresh = F; proper = tt; now_is = refl }

pub history_goes_on : {n t : ℕ} {faulty : List Pair} {W : Nets.Net} (e : Event)
    → History n t faulty W → Proper n e → History n t faulty (happens faulty W e)
history_goes_on {n} {t} {faulty} e H p = record {
  beginning = H.beginning;
  events = H.events ++ (e ∷ []);
  setting = H.setting;
  fresh = H.fresh;
  proper = proper_more n H.events e H.proper p;
  now_is = ap (λ (W : Nets.Net). happens faulty W e) H.now_is ∙ sym (run_more faulty H.beginning H.events e);
}

-- "A base broadcasts at most n + 3 in its life."
pub history_life : {n t : ℕ} {faulty : List Pair} {W : Nets.Net} → History n t faulty W → (b : ℕ) → BaseOf n b → length (W.log b) ≤ n + 3
history_life {n} {t} {faulty} H b B = subst (λ (W : Nets.Net). length (W.log b) ≤ n + 3)
    (sym H.now_is) ((orderly n t faulty H.beginning H.events H.setting H.fresh H.proper).life b B)

at_proper : (n : ℕ) (e : Event) → Proper n e → BaseOf n (at e)
unfolding at
at_proper n (starts b room) p = p
at_proper n (carry a b k room) p = p.1
at_proper n (forge a b bytes room) p = p.1

-- ---- one event more
module _ {n t : ℕ} {faulty : List Pair} {W : Nets.Net} (H : History n t faulty W) (e : Event) (p : Proper n e) where
  abbrev N : NetSize n
  N = H.setting.size

  here : BaseOf n (at e)
  here = at_proper n e p

  base_within : (b : ℕ) → BaseOf n b → in_range b most_bases ≡ true
  base_within b B = is_within B.least (omega (arith, B.most, N.most))

  room : refusal faulty W e ≡ 0 → length (W.log (at e)) + length (call W e).says ≤ most_broadcasts
  room q = omega (
    arith,
    history_life (history_goes_on e H p) (at e) here,
    ap length after_log,
    length-append (W.log (at e)) (map encode (call W e).says),
    length-map (call W e).says encode,
    N.most,
  )
    where
      after_log : (happens faulty W e).log (at e) ≡ W.log (at e) ++ map encode (call W e).says
      after_log = unfold happens net_after in
          ap (λ (U : Nets.Net). U.log (at e)) (choose_yes (net_after W e) W (eq-eqb (refusal faulty W e) 0 q))
          ∙ replaced_here (at e) (W.log (at e) ++ map encode (call W e).says) W.log

  place : refusal faulty W e ≡ 0 → HasPlace e
  unfolding refusal
  place q = go e p (first_passed _ _ q).0
    where
      go : (e : Event) → Proper n e → event_refusal faulty W e ≡ 0 → HasPlace e
      go (starts b size) p q = tt
      go (carry a b zero size) p q = absurd (carry_has_number faulty W a b size q)
      go (carry a b (suc k) size) p q = (
        base_within a p.0,
        is_within (omega arith) (omega (arith, carry_names_broadcast faulty W a b (suc k) size q, history_life H a p.0, N.most)),
      )
      go (forge a b bytes size) p q = tt

  pub represents_goes_on : (w : StoredNet) → Represents w n t faulty W → Represents (after w e) n t faulty (happens faulty W e)
  represents_goes_on w S = record {
    record_n = after_n w e B ∙ S.record_n;
    record_t = after_t w e B ∙ S.record_t;
    links = after_links w e S.sized B ∙ S.links;
    abstracts = abstract_after w e S.sized B fits ∙ ap₂ (λ (l : List Pair) (U : Nets.Net). happens l U e) S.links S.abstracts;
    sized = after_sized_net w e S.sized B;
  }
    where
      B : in_range (at e) most_bases ≡ true
      B = base_within (at e) here

      fits : refusal (faulty_of w) (net_of w) e ≡ 0
          → (length ((net_of w).log (at e)) + length (call (net_of w) e).says ≤ most_broadcasts) × HasPlace e
      fits q =
          let r : refusal faulty W e ≡ 0 = ap₂ (λ (l : List Pair) (U : Nets.Net). refusal l U e) (sym S.links) (sym S.abstracts)
          ∙ q in (
            subst (λ (U : Nets.Net). length (U.log (at e)) + length (call U e).says ≤ most_broadcasts) (sym S.abstracts) (room r),
            place r,
          )

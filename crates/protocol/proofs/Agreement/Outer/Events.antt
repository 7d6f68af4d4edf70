-- Each event that is not turned down moves the group that the net follows by a start or an arrival.
-- On a good link what arrives is a carry, since 18 turns a forgery down; what a carry names was
-- broadcast, since 16 turns it down otherwise; and its frame reads back as the message that was said.
use Prim.Native.Nat.{ℕ, zero, suc, ◌≤◌, ◌<◌}
use Rattle.std.specs.Prelude.{◌≡◌, refl, ◌≢◌, ◌⊎◌, Bool, true, List}
use Rattle.std.proofs.Math.Path.{sym, ap, subst}
use Rattle.std.proofs.Common.{ap₂, ◌∙◌, arith}
use Rattle.std.proofs.Math.Logic.{inl, inr}
use Rattle.std.proofs.Math.ListN.{length}
use Rattle.limits.specs.Refusals.{NetSize}
use Rattle.lists.specs.Choice.Laws.{first_passed, clash}
use Rattle.lists.specs.Lists.{Below}
use Rattle.frame.specs.Message.{Message, Valid}
use Rattle.frame.specs.Reading.{burst_refusal, message_of}
use Rattle.protocol.specs.declared.Base.{Base}
use Rattle.protocol.specs.Steps.{start_step, start, arrival_step, arrival}
use Rattle.protocol.proofs.Steps.Refusals.{burst_valid}
use Rattle.protocol.specs.Numbering.{link_to}
use Rattle.protocol.specs.Net.{Net, Pair, good, Event, starts, carry, forge, at}
use Rattle.protocol.specs.Net.{broadcast, call, event_refusal, call_refusal, refusal, carried_after, net_after}
use Rattle.protocol.specs.Agreement.{Proper}
use Rattle.protocol.specs.Agreement.Views.{Said}
use Rattle.protocol.specs.Agreement.Invariant.{Premises, broadcast_at}
use Rattle.protocol.proofs.Agreement.Observers.{place_of}
use Rattle.protocol.proofs.Agreement.Observers.Places.{place_link}
use Rattle.protocol.proofs.Agreement.Inner.{Group, group_after, ReachedGroup}
use Rattle.protocol.proofs.Agreement.Inner.{group_starts, group_arrives, HandedOver}
use Rattle.protocol.proofs.Agreement.Inner.Theorem.{GroupInvariant, group_invariant, start_runs, arrival_runs}
use Rattle.protocol.proofs.Agreement.Outer.Faulty.{table, table_good}
use Rattle.protocol.proofs.Agreement.Outer.Frames.{length_encoded, said_at, reads_back}
use Rattle.protocol.proofs.Agreement.Outer.Refusals.{carry_names_broadcast, carry_has_number, forgery_on_faulty_link, encoded_at}
use Rattle.protocol.proofs.Agreement.Outer.Refusals.{start_done, arrival_done, carried_cases}
use Rattle.protocol.proofs.Agreement.Outer.Follows.{Follows, carried_by, net_after_matches, state_left}

module _ (n t : ℕ) (faulty : List Pair) (id : ℕ → ℕ) (truth : List ℕ) (NS : NetSize n) (P : Premises n t (table faulty) id truth) where
  -- what an event that is not turned down leads to
  pub record GroupMoved (W : Net) (e : Event) : Type 0 where
    pub follows : Follows n t faulty id (net_after W e)
    pub runs : 1 ≤ ((net_after W e).base (at e)).state

  module _ (W : Net) (F : Follows n t faulty id W) where
    abbrev N : Group
    N = F.group

    S : GroupInvariant n t (table faulty) id truth N
    S = group_invariant n t (table faulty) id truth P F.reached

    -- ---- a start at base y + 1
    start_moved : (y room : ℕ) → y < n → refusal faulty W (starts (suc y) room) ≡ 0 → GroupMoved W (starts (suc y) room)
    unfolding refusal event_refusal call
    start_moved y room y_in r = record {
      follows = record {
        group = group_after N y (start_step (N.base y)) (carried_by W (starts (suc y) room));
        reached = subst (λ (h : ℕ → ℕ → ℕ → Bool). ReachedGroup n t (table faulty) id (group_after N y (start_step (N.base y)) h)) handed
            (group_starts F.reached y y_in);
        matches = net_after_matches n W N (starts (suc y) room) y (start_step (N.base y)) y_in F.matches (unfold at in refl) done;
      };
      runs = state_left W (starts (suc y) room) (start_step (N.base y)) done (start_runs n t (table faulty) id truth P F.reached y y_in);
    }
      where
        done : start (W.base (suc y)) room ≡ start_step (N.base y)
        done = start_done (W.base (suc y)) room (first_passed _ _ r).1 ∙ ap start_step (F.matches.base y y_in)

        handed : N.handed ≡ carried_by W (starts (suc y) room)
        handed = λ i a c k. unfold carried_by carried_after in sym (F.matches.carried a c k) i

    -- ---- a burst that arrives at base y + 1 on its link to base x + 1
    module _ (x y room : ℕ) (burst : List ℕ) (x_in : x < n) (y_in : y < n) (ne : x ≢ y)
        (answered : call_refusal (arrival (W.base (suc y)) (link_to (suc y) (suc x)) burst room).answer ≡ 0) where
      arrived : arrival (W.base (suc y)) (link_to (suc y) (suc x)) burst room ≡ arrival_step (N.base y) (place_of y x) (message_of burst)
      arrived = (arrival_done (W.base (suc y)) (link_to (suc y) (suc x)) burst room answered).0
          ∙ ap₂ (λ (b : Base) (i : ℕ). arrival_step b i (message_of burst)) (F.matches.base y y_in) (place_link y x)

      read : burst_refusal n burst ≡ 0
      read = subst (λ k. burst_refusal k burst ≡ 0) (ap (λ (b : Base). b.n) (F.matches.base y y_in) ∙ (S.member y y_in).n_is)
          (arrival_done (W.base (suc y)) (link_to (suc y) (suc x)) burst room answered).1

      arrival_moved : (e : Event) → at e ≡ suc y → call W e ≡ arrival (W.base (suc y)) (link_to (suc y) (suc x)) burst room
          → Valid n (message_of burst)
          → (table faulty x y ≡ 0 → Said (message_of burst) (N.log x)) → HandedOver N x y (message_of burst) (carried_by W e)
          → GroupMoved W e
      arrival_moved e here is w source newly = record {
        follows = record {
          group = group_after N y (arrival_step (N.base y) (place_of y x) (message_of burst)) (carried_by W e);
          reached = group_arrives F.reached x y (message_of burst) (carried_by W e) x_in y_in ne w source newly;
          matches =
              net_after_matches n W N e y (arrival_step (N.base y) (place_of y x) (message_of burst)) y_in F.matches here (is ∙ arrived);
        };
        runs = state_left W e (arrival_step (N.base y) (place_of y x) (message_of burst)) (is ∙ arrived)
            (arrival_runs n t (table faulty) id truth P F.reached x y (message_of burst) x_in y_in ne w);
      }

    -- ---- a carry of base x + 1's broadcast number k + 1: it is in the log, and reads back as the message said
    carry_moved : (x y k room : ℕ) → x < n → y < n → x ≢ y → refusal faulty W (carry (suc x) (suc y) (suc k) room) ≡ 0
        → GroupMoved W (carry (suc x) (suc y) (suc k) room)
    carry_moved x y k room x_in y_in ne r =
        arrival_moved x y room frame x_in y_in ne answered (carry (suc x) (suc y) (suc k) room) (unfold at in refl) (unfold call in refl)
        (subst (Valid n) (sym same) valid) (λ good. subst (λ m. Said m (N.log x)) (sym same) said) newly
      where
        refused : (event_refusal faulty W (carry (suc x) (suc y) (suc k) room) ≡ 0)
            × (call_refusal (call W (carry (suc x) (suc y) (suc k) room)).answer ≡ 0)
        refused = unfold refusal in first_passed _ _ r

        frame : List ℕ
        frame = broadcast W (suc x) (suc k)

        answered : call_refusal (arrival (W.base (suc y)) (link_to (suc y) (suc x)) (broadcast W (suc x) (suc k)) room).answer ≡ 0
        answered = unfold call in refused.1

        was_broadcast : k < length (N.log x)
        was_broadcast = omega (
          arith,
          carry_names_broadcast faulty W (suc x) (suc y) (suc k) room refused.0,
          ap length (F.matches.log x x_in),
          length_encoded (N.log x),
        )

        m : Message
        m = broadcast_at (N.log x) k

        said : Said m (N.log x)
        said = said_at (N.log x) k was_broadcast

        valid : Valid n m
        valid = S.valid x m x_in said

        same : message_of (broadcast W (suc x) (suc k)) ≡ m
        same = ap message_of (encoded_at W (suc x) k (N.log x) (F.matches.log x x_in) was_broadcast) ∙ reads_back n NS m valid

        newly : HandedOver N x y (message_of (broadcast W (suc x) (suc k))) (carried_by W (carry (suc x) (suc y) (suc k) room))
        newly a c j h = elim (carried_cases W (suc x) (suc y) (suc k) room (suc a) (suc c) (suc j) (unfold carried_by in h)) [
          | inl old ↦ inl (sym (F.matches.carried a c j) ∙ old)
          | inr now ↦ this now.0 now.1 now.2
        ]
          where
            this : suc a ≡ suc x → suc c ≡ suc y → suc j ≡ suc k
                → (N.handed a c j ≡ true)
                ⊎ ((a ≡ x) × (c ≡ y) × (j < length (N.log x)) × (broadcast_at (N.log x) j ≡ message_of (broadcast W (suc x) (suc k))))
            this p q s =
                let e : j ≡ k = cc in
                inr (cc, cc, subst (λ z. z < length (N.log x)) (sym e) was_broadcast, ap (broadcast_at (N.log x)) e ∙ sym same)

    -- ---- a forgery on the link of base x + 1 and base y + 1: that link is faulty
    forge_moved : (x y room : ℕ) (bytes : List ℕ) → x < n → y < n → x ≢ y → Below 256 bytes
        → refusal faulty W (forge (suc x) (suc y) bytes room) ≡ 0 → GroupMoved W (forge (suc x) (suc y) bytes room)
    forge_moved x y room bytes x_in y_in ne below r =
        arrival_moved x y room bytes x_in y_in ne answered (forge (suc x) (suc y) bytes room) (unfold at in refl) (unfold call in refl)
        (burst_valid n NS bytes below (read x y room bytes x_in y_in ne answered))
        (λ good. clash (table_good faulty x y good) (forgery_on_faulty_link faulty W (suc x) (suc y) room bytes refused.0)) newly
      where
        refused : (event_refusal faulty W (forge (suc x) (suc y) bytes room) ≡ 0)
            × (call_refusal (call W (forge (suc x) (suc y) bytes room)).answer ≡ 0)
        refused = unfold refusal in first_passed _ _ r

        answered : call_refusal (arrival (W.base (suc y)) (link_to (suc y) (suc x)) bytes room).answer ≡ 0
        answered = unfold call in refused.1

        newly : HandedOver N x y (message_of bytes) (carried_by W (forge (suc x) (suc y) bytes room))
        newly a c j h = inl (sym (F.matches.carried a c j) ∙ (unfold carried_by carried_after in h))

    -- ---- any event
    pub event_moved : (e : Event) → Proper n e → refusal faulty W e ≡ 0 → GroupMoved W e
    event_moved (starts zero room) p r = absurd (omega (arith, p.least))
    event_moved (starts (suc y) room) p r = start_moved y room p.most r
    event_moved (carry zero b k room) p r = absurd (omega (arith, p.0.least))
    event_moved (carry (suc x) zero k room) p r = absurd (omega (arith, p.1.least))
    event_moved (carry (suc x) (suc y) zero room) p r =
        absurd (carry_has_number faulty W (suc x) (suc y) room (unfold refusal in (first_passed _ _ r).0))
    event_moved (carry (suc x) (suc y) (suc k) room) p r = carry_moved x y k room p.0.most p.1.most (λ e. p.2 (ap suc e)) r
    event_moved (forge zero b bytes room) p r = absurd (omega (arith, p.0.least))
    event_moved (forge (suc x) zero bytes room) p r = absurd (omega (arith, p.1.least))
    event_moved (forge (suc x) (suc y) bytes room) p r =
        forge_moved x y room bytes p.0.most p.1.most (λ e. p.2 (ap suc e)) p.3 r

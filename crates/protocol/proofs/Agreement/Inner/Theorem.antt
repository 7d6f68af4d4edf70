-- The inner theorem, proved: the invariant holds at the beginning and every start and arrival keeps it;
-- it says that stopped bases hold the truth, and at rest all have stopped. Beside it, what the outer
-- layer needs of a group that was reached: its bases are members, and every message in a log is valid.
use Rattle.std.specs.Prelude.{ℕ, ◌≤◌, ◌<◌, ◌≡◌, ◌≢◌, ◌⊎◌, Bool, true, length}
use Rattle.std.proofs.Common.{sym, ◌∙◌, inr}
use Rattle.std.proofs.Math.Path.{subst}
use Rattle.std.proofs.Math.Logic.{inl}
use mathlib.Core.List.Memᴰ
use mathlib.Core.List.{List, [], ◌∷◌}
use Rattle.frame.specs.Message.{Message, correct_final, Valid}
use Rattle.protocol.specs.Record.{final_list}
use Rattle.protocol.specs.Steps.{Done, start_step, arrival_step}
use Rattle.protocol.proofs.Steps.Broadcasts.{AllValid}
use Rattle.protocol.proofs.Agreement.Cases.{impossible}
use Rattle.protocol.specs.Agreement.Views.{Said}
use Rattle.protocol.specs.Agreement.Calls.{ViewInput, start_input, message_input}
use Rattle.protocol.specs.Agreement.Invariant.{Premises, Invariant, broadcast_at}
use Rattle.protocol.proofs.Agreement.NetSteps.{NetStep}
use Rattle.protocol.proofs.Agreement.Kept.{kept}
use Rattle.protocol.proofs.Agreement.Liveness.{all_stopped}
use Rattle.protocol.proofs.Agreement.Observers.{place_of, view}
use Rattle.protocol.proofs.Agreement.Inner.{Member, Group, group_after, ReachedGroup, fresh, group_starts, group_arrives, Agrees}
use Rattle.protocol.proofs.Agreement.Inner.Begins.{seen, invariant_begins}
use Rattle.protocol.proofs.Agreement.Inner.Moves.{called_each, Move, start_moves, arrival_moves, move_step}

-- what holds of every group that was reached
pub record GroupInvariant (n t : ℕ) (faulty : ℕ → ℕ → ℕ) (id : ℕ → ℕ) (truth : List ℕ) (N : Group) : Type 0 where
  pub invariant : Invariant n t faulty id truth (seen N)
  pub member : (x : ℕ) → x < n → Member n t (id x) (N.base x)
  pub valid : (x : ℕ) (m : Message) → x < n → Said m (N.log x) → Valid n m

one_valid : (n : ℕ) (says : List Message) (m : Message) → AllValid n says → Said m says → Valid n m
one_valid n [] m p h = absurd (Memᴰ.not-nil h)
one_valid n (w ∷ says) m p h = go (Memᴰ.cases_cons h) (λ k. one_valid n says m p.1 k)
  where
    go : (m ≡ w) ⊎ Said m says → (Said m says → Valid n m) → Valid n m
    go (inl e) rest = subst (Valid n) (sym e) p.0
    go (inr k) rest = rest k

module _ (n t : ℕ) (faulty : ℕ → ℕ → ℕ) (id : ℕ → ℕ) (truth : List ℕ) (P : Premises n t faulty id truth) where
  -- a move keeps all of it
  moved : (N : Group) → GroupInvariant n t faulty id truth N → (y : ℕ) → y < n → (i : ViewInput) (d : Done) (handed : ℕ → ℕ → ℕ → Bool)
      → Move n t y (id y) i (N.base y) d
      → NetStep n t faulty id (seen N) (seen (group_after N y d handed)) → GroupInvariant n t faulty id truth (group_after N y d handed)
  moved N S y y_in i d handed does step = record {
    invariant = kept n t faulty id truth P (seen N) (seen (group_after N y d handed)) S.invariant step;
    member = called_each N y d handed (λ x b log. x < n → Member n t (id x) b) (λ l. does.member) (λ x ne l. S.member x l);
    valid = called_each N y d handed (λ x b log. (m : Message) → x < n → Said m log → Valid n m)
        (λ m l h. elim (Memᴰ.append_cases (N.log y) h) [ inl k ↦ S.valid y m l k | inr k ↦ one_valid n d.says m does.valid k ])
        (λ x ne m l h. S.valid x m l h);
  }

  pub group_invariant : {N : Group} → ReachedGroup n t faulty id N → GroupInvariant n t faulty id truth N
  group_invariant (fresh {N = N} F) = record {
    invariant = invariant_begins n t faulty id truth N F;
    member = F.member;
    valid = λ x m l h. absurd (Memᴰ.not-nil (subst (Said m) (F.silent x l) h));
  }
  group_invariant (group_starts {N = N} R y y_in) = go (group_invariant R)
    where
      go : GroupInvariant n t faulty id truth N → GroupInvariant n t faulty id truth (group_after N y (start_step (N.base y)) N.handed)
      go S =
          let does = start_moves n t y y_in (id y) (N.base y) (S.member y y_in) (unfold seen in S.invariant.quiescent y y_in) in
          let step = move_step n t faulty id N y y_in start_input (start_step (N.base y)) N.handed does
          (λ x m l ne good e. impossible (cc)) (λ a c k h. inl h) in
          moved N S y y_in start_input (start_step (N.base y)) N.handed does step
  group_invariant (group_arrives {N = N} R x y m handed x_in y_in ne w source newly) = go (group_invariant R)
    where
      go : GroupInvariant n t faulty id truth N
          → GroupInvariant n t faulty id truth (group_after N y (arrival_step (N.base y) (place_of y x) m) handed)
      go S =
          let does =
          arrival_moves n t y y_in (id y) (N.base y) (S.member y y_in) (unfold seen in S.invariant.quiescent y y_in) x x_in ne m w in
          moved N S y y_in (message_input x m) (arrival_step (N.base y) (place_of y x) m) handed does
          (move_step n t faulty id N y y_in (message_input x m) (arrival_step (N.base y) (place_of y x) m) handed does from now)
        where
          from : (z : ℕ) (u : Message) → z < n → z ≢ y → faulty z y ≡ 0 → message_input x m ≡ message_input z u → Said u (N.log z)
          from z u l d good e = let p : x ≡ z = cc in let q : m ≡ u = cc in
              subst (λ k. Said u (N.log k)) p (subst (λ k. Said k (N.log x)) q (source (subst (λ k. faulty k y ≡ 0) (sym p) good)))

          now : (a c k : ℕ) → handed a c k ≡ true
              → (N.handed a c k ≡ true)
              ⊎ ((c ≡ y) × (k < length (N.log a)) × (message_input x m ≡ message_input a (broadcast_at (N.log a) k)))
          now a c k h = elim (newly a c k h) [
            | inl o ↦ inl o
            | inr o ↦ inr (o.1, subst (λ z. k < length (N.log z)) (sym o.0) o.2, same a k o.0 o.3)
          ]
            where
              same : (a k : ℕ) → a ≡ x → broadcast_at (N.log x) k ≡ m → message_input x m ≡ message_input a (broadcast_at (N.log a) k)
              same a k e f = rw (e, f)

  -- a base runs or has stopped after a call
  pub start_runs : {N : Group} → ReachedGroup n t faulty id N → (y : ℕ) → y < n → 1 ≤ (start_step (N.base y)).base.state
  start_runs {N} R y y_in = go (group_invariant R)
    where
      go : GroupInvariant n t faulty id truth N → 1 ≤ (start_step (N.base y)).base.state
      go S = unfold view in (start_moves n t y y_in (id y) (N.base y) (S.member y y_in)
          (unfold seen in S.invariant.quiescent y y_in)).call.runs

  pub arrival_runs : {N : Group} → ReachedGroup n t faulty id N → (x y : ℕ) (m : Message) → x < n → y < n → x ≢ y → Valid n m
      → 1 ≤ (arrival_step (N.base y) (place_of y x) m).base.state
  arrival_runs {N} R x y m x_in y_in ne w = go (group_invariant R)
    where
      go : GroupInvariant n t faulty id truth N → 1 ≤ (arrival_step (N.base y) (place_of y x) m).base.state
      go S = unfold view in (arrival_moves n t y y_in (id y) (N.base y) (S.member y y_in)
          (unfold seen in S.invariant.quiescent y y_in) x x_in ne m w).call.runs

  pub inner : {N : Group} → ReachedGroup n t faulty id N → Agrees n faulty truth N
  inner {N} R = agrees (group_invariant R).invariant
    where
      agrees : Invariant n t faulty id truth (seen N) → Agrees n faulty truth N
      agrees I = record {
        states = λ x v l h. ((backs x v l h).0, three x l);
        finals = λ x v l h. (let w = backs x v l h in (sym w.1 ∙ holds_truth x l w.0, holds_truth x l w.0));
        ends = λ started over x l. said x l
            (all_stopped n t faulty id truth P (seen N) I (unfold seen view in record { started = started; handed_over = over }) x l);
      }
        where
          backs : (x : ℕ) (v : List ℕ) → x < n → Said (correct_final v) (N.log x) → (2 ≤ (N.base x).state) × (final_list (N.base x) ≡ v)
          backs x v l h = unfold seen view in I.backed x (correct_final v) l h

          three : (x : ℕ) → x < n → (N.base x).state ≤ 3
          three x l = unfold seen view in (I.sound x l).states

          holds_truth : (x : ℕ) → x < n → 2 ≤ (N.base x).state → final_list (N.base x) ≡ truth
          holds_truth x l s = unfold seen view in I.final_true x l s

          said : (x : ℕ) → x < n → 2 ≤ ((seen N).base x).state → Said (correct_final truth) (N.log x)
          said x l s = unfold seen in subst (λ v. Said (correct_final v) (N.log x)) (I.final_true x l s) (I.stop_said x l s)

-- A whole history: the net follows a group after any list of events, and a base that was started runs or has stopped.
use Rattle.std.specs.Prelude.{ℕ, ◌≤◌, ◌≡◌, ◌≢◌, ◌⊎◌, eqb}
use Rattle.std.proofs.Common.{sym, subst, eqb-true}
use Rattle.std.proofs.Math.Logic.{inl, inr}
use Rattle.std.proofs.Math.Bool.{true}
use mathlib.Core.List.{List, [], ◌∷◌}
use Rattle.std.proofs.Math.Decide.{ℕ_discrete}
use Rattle.limits.specs.Refusals.{NetSize}
use Rattle.lists.specs.Choice.{and, or}
use Rattle.lists.specs.Choice.Laws.{choose_ind, and_true, or_true, clash}
use Rattle.protocol.specs.Net.{Net, Pair, Event, at, refusal, net_after, happens, run, started}
use Rattle.protocol.specs.Agreement.{Proper, AllProper}
use Rattle.protocol.proofs.Agreement.Cases.{impossible}
use Rattle.protocol.specs.Agreement.Invariant.{Premises}
use Rattle.protocol.proofs.Agreement.Inner.Moves.{replaced_other}
use Rattle.protocol.proofs.Agreement.Outer.Faulty.{table}
use Rattle.protocol.proofs.Agreement.Outer.Follows.{Follows}
use Rattle.protocol.proofs.Agreement.Outer.Events.{event_moved}

module _ (n t : ℕ) (faulty : List Pair) (id : ℕ → ℕ) (truth : List ℕ) (NS : NetSize n) (P : Premises n t (table faulty) id truth) where
  -- "An event that is turned down ... changes nothing"
  happens_follows : (W : Net) (e : Event) → Follows n t faulty id W → Proper n e → Follows n t faulty id (happens faulty W e)
  unfolding happens
  happens_follows W e F p = choose_ind (Follows n t faulty id) (eqb (refusal faulty W e) 0)
      (λ r. (event_moved n t faulty id truth NS P W F e p (eqb-true (refusal faulty W e) 0 r)).follows) (λ r. F)

  pub run_follows : (W : Net) (es : List Event) → Follows n t faulty id W → AllProper n es → Follows n t faulty id (run faulty W es)
  unfolding run
  run_follows W [] F p = F
  run_follows W (e ∷ es) F p = run_follows (happens faulty W e) es (happens_follows W e F p.0) p.1

  -- ---- "A base is started by its first start or arrival that is not turned down."
  abbrev RunsOrStopped : Net → ℕ → Type 0
  RunsOrStopped W b = 1 ≤ (W.base b).state

  -- an event at another base leaves it alone, and one at this base leaves it running or stopped
  net_after_runs : (W : Net) (e : Event) (b : ℕ) → Follows n t faulty id W → Proper n e → refusal faulty W e ≡ 0
      → RunsOrStopped W b ⊎ (at e ≡ b) → RunsOrStopped (net_after W e) b
  net_after_runs W e b F p r h = elim (ℕ_discrete b (at e)) [
    | yes q ↦ subst (RunsOrStopped (net_after W e)) (sym q) (event_moved n t faulty id truth NS P W F e p r).runs
    | no q ↦ elim h [ inl k ↦ other q k | inr k ↦ absurd (q (sym k)) ]
  ]
    where
      other : b ≢ at e → RunsOrStopped W b → RunsOrStopped (net_after W e) b
      other q k = unfold net_after in rw (replaced_other (at e) _ W.base b q) k

  happens_runs : (W : Net) (e : Event) (b : ℕ) → Follows n t faulty id W → Proper n e
      → RunsOrStopped W b ⊎ (and (eqb (at e) b) (eqb (refusal faulty W e) 0) ≡ true) → RunsOrStopped (happens faulty W e) b
  unfolding happens
  happens_runs W e b F p h = choose_ind (λ (M : Net). RunsOrStopped M b) (eqb (refusal faulty W e) 0)
      (λ r. net_after_runs W e b F p (eqb-true (refusal faulty W e) 0 r)
      (elim h [ inl k ↦ inl k | inr k ↦ inr (eqb-true (at e) b (parts k).0) ]))
      (λ r. elim h [ inl k ↦ k | inr k ↦ clash (parts k).1 r ])
    where
      parts : and (eqb (at e) b) (eqb (refusal faulty W e) 0) ≡ true → (eqb (at e) b ≡ true) × (eqb (refusal faulty W e) 0 ≡ true)
      parts = and_true (eqb (at e) b) (eqb (refusal faulty W e) 0)

  pub started_runs : (W : Net) (es : List Event) (b : ℕ) → Follows n t faulty id W → AllProper n es
      → RunsOrStopped W b ⊎ (started faulty W es b ≡ true) → RunsOrStopped (run faulty W es) b
  unfolding run started
  started_runs W [] b F p (inl h) = h
  started_runs W [] b F p (inr h) = impossible (cc)
  started_runs W (e ∷ es) b F p h = started_runs (happens faulty W e) es b (happens_follows W e F p.0) p.1 (next h)
    where
      next : RunsOrStopped W b ⊎ (or (and (eqb (at e) b) (eqb (refusal faulty W e) 0)) (started faulty (happens faulty W e) es b) ≡ true)
          → RunsOrStopped (happens faulty W e) b ⊎ (started faulty (happens faulty W e) es b ≡ true)
      next (inl k) = inl (happens_runs W e b F p.0 (inl k))
      next (inr k) = elim (or_true (and (eqb (at e) b) (eqb (refusal faulty W e) 0)) (started faulty (happens faulty W e) es b) k) [
        | inl q ↦ inl (happens_runs W e b F p.0 (inr q))
        | inr q ↦ inr q
      ]

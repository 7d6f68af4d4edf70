-- What agreement says of a history by the states of its bases, as a report prints them: a base whose state says so has stopped, and
-- one that is not idle was started.
use Rattle.std.specs.Prelude.{ℕ, ◌≤◌, ◌≡◌, refl, ◌⊎◌, Bool, true, false, List, [], ◌∷◌, eqb, leb}
use Rattle.std.proofs.Common.{sym, ap, ◌∙◌, inl, inr, arith, eqb-true, ne_eqb, leb-true, leb-false}
use Rattle.std.proofs.lemmas.Bool.{eqb-false}
use Rattle.lists.specs.Choice.{and}
use Rattle.lists.specs.Choice.Laws.{choose_yes, choose_no, or_false, and_both, clash}
use Rattle.lists.specs.Lists.{sort}
use Rattle.protocol.specs.declared.Base.{Base}
use Rattle.protocol.specs.Record.{final_list}
use Rattle.protocol.specs.Sound.{idle}
use Rattle.protocol.proofs.Sound.Laws.{record_passed, sound_parts}
use Rattle.protocol.specs.Steps.{leader_of}
use Rattle.protocol.specs.Net.{Net, Pair, Event, at, replaced, refusal}
use Rattle.protocol.specs.Net.{net_after, happens, run, started, has_stopped, waiting, leader_named}
use Rattle.protocol.specs.Agreement.{BaseOf, Setting, Fresh, AllProper, true_identifiers}
use Rattle.protocol.proofs.Agreement.Cases.{prime_or_secondary}
use Rattle.protocol.proofs.Agreement.Theorem.{agreement}
use Rattle.protocol.proofs.Agreement.Besides.{orderly}

-- ---- an event at another base, or one that is turned down, leaves a base alone
event_elsewhere : (faulty : List Pair) (W : Net) (e : Event) (b : ℕ)
    → and (eqb (at e) b) (eqb (refusal faulty W e) 0) ≡ false → (happens faulty W e).base b ≡ W.base b
unfolding happens net_after replaced and
event_elsewhere faulty W e b h = cases (eqb (refusal faulty W e) 0) refl (eqb (at e) b) refl
  where
    cases : (x : Bool) → eqb (refusal faulty W e) 0 ≡ x → (y : Bool) → eqb (at e) b ≡ y → (happens faulty W e).base b ≡ W.base b
    cases false q y r = ap (λ (M : Net). M.base b) (choose_no (net_after W e) W q)
    cases true q false r =
        ap (λ (M : Net). M.base b) (choose_yes (net_after W e) W q)
        ∙ choose_no _ (W.base b) (ne_eqb b (at e) (λ same. eqb-false (at e) b r (sym same)))
    cases true q true r = clash (and_both r q) h

-- a base that was never started is as at the beginning
not_started : (faulty : List Pair) (W : Net) (es : List Event) (b : ℕ) → started faulty W es b ≡ false → (run faulty W es).base b ≡ W.base b
unfolding started run
not_started faulty W [] b h = refl
not_started faulty W (e ∷ es) b h =
    let p = or_false (and (eqb (at e) b) (eqb (refusal faulty W e) 0)) (started faulty (happens faulty W e) es b) h in
    not_started faulty (happens faulty W e) es b p.1 ∙ event_elsewhere faulty W e b p.0

state_high : {state : ℕ} → (state ≡ 2) ⊎ (state ≡ 3) → 2 ≤ state
state_high (inl e) = omega arith
state_high (inr e) = omega arith

module _ (n t : ℕ) (faulty : List Pair) (W : Net) (S : Setting n t faulty) (F : Fresh n t W) (es : List Event) (p : AllProper n es) where
  abbrev end : Net
  end = run faulty W es

  -- a base that is not idle was started
  pub started_by : (b : ℕ) → BaseOf n b → 1 ≤ (end.base b).state → started faulty W es b ≡ true
  started_by b B h = cases (started faulty W es b) refl
    where
      cases : (x : Bool) → started faulty W es b ≡ x → started faulty W es b ≡ true
      cases true e = e
      cases false e =
          absurd (omega (
            arith,
            ap (λ (c : Base). c.state) (not_started faulty W es b e),
            eqb-true (W.base b).state 0 (unfold idle in F.idle b B),
          ))

  pub state_most : (b : ℕ) → BaseOf n b → (end.base b).state ≤ 3
  state_most b B = (sound_parts (end.base b) (record_passed (end.base b) ((orderly n t faulty W es S F p).records b B)).sound).state

  -- a base whose state says so has broadcast a Correct-Final
  pub stopped_by : (b : ℕ) → BaseOf n b → 2 ≤ (end.base b).state → has_stopped end b ≡ true
  stopped_by b B h = ((orderly n t faulty W es S F p).stops b B).1 (prime_or_secondary (end.base b).state h (state_most b B))

  pub stops_by : (b : ℕ) → BaseOf n b → has_stopped end b ≡ leb 2 (end.base b).state
  stops_by b B = cases (leb 2 (end.base b).state) refl (has_stopped end b) refl
    where
      cases : (x : Bool) → leb 2 (end.base b).state ≡ x → (y : Bool) → has_stopped end b ≡ y → y ≡ x
      cases true e y f = sym f ∙ stopped_by b B (leb-true 2 (end.base b).state e)
      cases false e false f = refl
      cases false e true f =
          absurd (omega (arith, leb-false 2 (end.base b).state e, state_high ((agreement n t faulty W es S F p).state b B f)))

  pub final_by : (b : ℕ) → BaseOf n b → 2 ≤ (end.base b).state → final_list (end.base b) ≡ sort (true_identifiers n W)
  final_by b B h = (agreement n t faulty W es S F p).final b B (stopped_by b B h)

  pub leader_by : (b : ℕ) → BaseOf n b → 2 ≤ (end.base b).state → leader_of (final_list (end.base b)) ≡ leader_of (true_identifiers n W)
  unfolding leader_named
  leader_by b B h = (agreement n t faulty W es S F p).leader b B (stopped_by b B h)

  pub ends_by : waiting n faulty end ≡ 0 → ((b : ℕ) → BaseOf n b → 1 ≤ (end.base b).state) → (b : ℕ) → BaseOf n b → 2 ≤ (end.base b).state
  ends_by none all b B =
      let A = agreement n t faulty W es S F p in
      state_high (A.state b B (A.ends (λ a C. started_by a C (all a C)) none b B))

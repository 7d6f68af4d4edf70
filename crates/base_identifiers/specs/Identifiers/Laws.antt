-- Identifiers looked up base by base.
use Prim.Native.Nat.{ℕ, zero, suc, ◌-◌, ◌≤◌, ◌<◌}
use Rattle.std.specs.Prelude.{◌≡◌, Bool, true, false, List, get_or}
use Rattle.std.proofs.Math.Path.{refl, sym}
use Rattle.std.proofs.Common.{ap, ◌∙◌, arith, eq-eqb, ne_eqb}
use Rattle.limits.specs.Limits.{most_bases}
use Rattle.limits.specs.Refusals.{own_refusal}
use Rattle.lists.specs.Choice.{or}
use Rattle.lists.specs.Choice.Laws.{choose_yes, choose_no, or_first, first_none, first_given}
use Rattle.protocol.specs.Sound.{idle_base}
use Rattle.protocol.specs.Agreement.Premise.{idle_net}
use Rattle.schedule.specs.Header.{owned, id_refusal}
use Rattle.base_identifiers.specs.Identifiers.{ids_net}

less : (b : ℕ) → b ≡ suc b - 1
less b = omega arith

module _ (ids : List ℕ) (v : ℕ) where
  own_is : (b : ℕ) → ((ids_net ids).base b).own ≡ get_or ids (b - 1) 0
  unfolding ids_net idle_net idle_base
  own_is b = refl

  pub named_here : (b : ℕ) → 0 < b → get_or ids (b - 1) 0 ≡ v → owned b (ids_net ids) v ≡ true
  unfolding owned
  named_here zero h e = absurd (omega arith)
  named_here (suc b) h e = or_first _ (eq-eqb ((ids_net ids).base (suc b)).own v (own_is (suc b) ∙ e))

  pub named_below : (b : ℕ) → 0 < b → (get_or ids (b - 1) 0 ≡ v → ⊥) → owned b (ids_net ids) v ≡ owned (b - 1) (ids_net ids) v
  unfolding owned or
  named_below zero h e = absurd (omega arith)
  named_below (suc b) h e =
      rw (ne_eqb ((ids_net ids).base (suc b)).own v (λ q. e (sym (own_is (suc b)) ∙ q))) (ap (λ (i : ℕ). owned i (ids_net ids) v) (less b))

  pub named_none : (b : ℕ) → b ≤ 0 → owned b (ids_net ids) v ≡ false
  unfolding owned
  named_none zero h = refl
  named_none (suc b) h = absurd (omega arith)

  -- 3, and where that is not given 14
  module _ {own : ℕ} (given : own ≡ own_refusal v) where
    pub no_identifier : (own ≡ 0 → ⊥) → own ≡ id_refusal (ids_net ids) v
    unfolding id_refusal
    no_identifier n = given ∙ sym (first_given _ (λ z. n (given ∙ z)))

    pub two_owners : own ≡ 0 → {r : Bool} → r ≡ owned most_bases (ids_net ids) v → r ≡ true → 14 ≡ id_refusal (ids_net ids) v
    unfolding id_refusal
    two_owners none e y = sym (first_none _ (sym given ∙ none) ∙ choose_yes 14 0 (sym e ∙ y))

    pub one_owner : own ≡ 0 → {r : Bool} → r ≡ owned most_bases (ids_net ids) v → r ≡ false → 0 ≡ id_refusal (ids_net ids) v
    unfolding id_refusal
    one_owner none e y = sym (first_none _ (sym given ∙ none) ∙ choose_no 14 0 (sym e ∙ y))

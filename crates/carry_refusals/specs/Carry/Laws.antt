-- A carry by its numbers: 16, 17, or neither.
use Rattle.std.specs.Prelude.{ℕ, ◌<◌, ◌≤◌, ◌≡◌, ◌≢◌, Bool, true, false, List, length, eqb}
use Rattle.std.proofs.Math.Path.{refl}
use Rattle.std.proofs.Common.{sym, ap, ◌∙◌}
use borrow.Author.Tests.{eq-eqb, ne_eqb, lt-ltb, le-ltb}
use Rattle.std.proofs.Math.Dec.{ltb}
use Rattle.lists.specs.Choice.{and, or}
use Rattle.lists.specs.Choice.Laws.{chosen_yes, chosen_no, and_both, and_no, and_fails, or_first, or_second, or_neither}
use Rattle.protocol.specs.Net.{good, event_refusal}
use Rattle.protocol.specs.Net as Nets
use Rattle.node.specs.declared.Node.{Node}
use Rattle.node.specs.Node.{log_of, heard_by}
use Rattle.carry_refusals.specs.Carry.{carry_refusal}

module _ (v u : Node) (faulty : List Nets.Pair) (a b k : ℕ) where
  pub not_numbered : k ≡ 0 → 16 ≡ carry_refusal v u faulty a b k
  unfolding carry_refusal event_refusal
  not_numbered e = chosen_yes _ (or_first _ (eq-eqb k 0 e)) refl

  pub not_broadcast : {n : ℕ} → n ≡ length (log_of v) → n < k → 16 ≡ carry_refusal v u faulty a b k
  unfolding carry_refusal event_refusal
  not_broadcast e h = chosen_yes _ (or_second (eqb k 0) (ap (λ (x : ℕ). ltb x k) (sym e) ∙ lt-ltb _ k h)) refl

  module _ (some : k ≢ 0) {n : ℕ} (e : n ≡ length (log_of v)) (h : k ≤ n) where
    there : or (eqb k 0) (ltb (length (log_of v)) k) ≡ false
    there = or_neither (ne_eqb k 0 some) (ap (λ (x : ℕ). ltb x k) (sym e) ∙ le-ltb _ k h)

    pub repeated : {g d : Bool} → g ≡ good faulty a b → g ≡ true → d ≡ heard_by u a k → d ≡ true → 17 ≡ carry_refusal v u faulty a b k
    unfolding carry_refusal event_refusal
    repeated eg g ed d = chosen_no _ there (chosen_yes _ (and_both (sym eg ∙ g) (sym ed ∙ d)) refl)

    pub first_time : {d : Bool} → d ≡ heard_by u a k → d ≡ false → 0 ≡ carry_refusal v u faulty a b k
    unfolding carry_refusal event_refusal
    first_time ed d = chosen_no _ there (chosen_no _ (ap (and (good faulty a b)) (sym ed ∙ d) ∙ and_no _) refl)

    pub on_a_faulty_link : {g : Bool} → g ≡ good faulty a b → g ≡ false → 0 ≡ carry_refusal v u faulty a b k
    unfolding carry_refusal event_refusal
    on_a_faulty_link eg g = chosen_no _ there (chosen_no _ (sym (and_fails _ (sym eg ∙ g))) refl)

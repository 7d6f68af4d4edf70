-- A link that is named twice, one too many, and one that may be named.
use Rattle.std.specs.Prelude.{ℕ, ◌≡◌, refl, ◌≢◌, Bool, true, false}
use Rattle.std.proofs.Math.Path.{sym, ap₂}
use Rattle.std.proofs.Common.{ap, ◌∙◌, arith, eq-eqb, ne_eqb}
use Rattle.std.proofs.Math.Bool.{not}
use Rattle.lists.specs.Choice.Laws.{chosen_yes, chosen_no}
use Rattle.protocol.specs.Net.{good}
use Rattle.schedule.specs.Header.{faulty_refusal}
use Rattle.faulty_links.specs.declared.Faulty.{Faulty}
use Rattle.faulty_links.specs.Faulty.{pairs_of, marked_faulty}
use Rattle.faulty_naming.specs.declared.FaultyNamed.{FaultyNamed}
use Rattle.faulty_naming.specs.Naming.{naming_refusal, faulty_named}

module _ (t : ℕ) (f : Faulty) (a b : ℕ) where
  refused_by : {r : ℕ} → r ≡ naming_refusal t f a b → r ≢ 0 → record { refusal = r; faulty = f } ≡ faulty_named t f a b
  unfolding faulty_named
  refused_by e some = ap₂ (λ (m : ℕ) (x : Faulty). record { refusal = m; faulty = x }) e (chosen_no _ (ne_eqb _ 0 (λ z. some (e ∙ z))) refl)

  module _ {g : Bool} (eg : g ≡ good (pairs_of f) a b) where
    pub named_twice : g ≡ false → record { refusal = 13; faulty = f } ≡ faulty_named t f a b
    unfolding naming_refusal
    named_twice bad = refused_by (chosen_yes _ (ap not (sym eg ∙ bad)) refl) (λ z. omega arith)

    module _ (fine : g ≡ true) {r : ℕ} (er : r ≡ faulty_refusal t (pairs_of f)) where
      number : r ≡ naming_refusal t f a b
      unfolding naming_refusal
      number = chosen_no _ (ap not (sym eg ∙ fine)) er

      pub one_too_many : r ≢ 0 → record { refusal = r; faulty = f } ≡ faulty_named t f a b
      one_too_many some = refused_by number some

      pub named_faulty : r ≡ 0 → {w : Faulty} → w ≡ marked_faulty f a b → record { refusal = 0; faulty = w } ≡ faulty_named t f a b
      unfolding faulty_named
      named_faulty none e =
          let z = sym number ∙ none in
          ap₂ (λ (m : ℕ) (x : Faulty). record { refusal = m; faulty = x }) (sym z) (chosen_yes _ (eq-eqb _ 0 z) e)

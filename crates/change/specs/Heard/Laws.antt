-- What is done for each kind, by the kind.
use Rattle.std.specs.Prelude.{ℕ, ◌≡◌, ◌≢◌}
use Rattle.std.proofs.Math.Path.{refl}
use Rattle.std.proofs.Common.{sym, ap, ◌∙◌, ne_eqb}
use Rattle.lists.specs.Choice.{choose}
use Rattle.lists.specs.Choice.Laws.{choose_no}
use Rattle.change.specs.Heard.{by_kind}

module _ {A : Type 0} {kind : ℕ} (a b c d e : A) where
  pub kind_one : kind ≡ 1 → by_kind kind a b c d e ≡ a
  unfolding by_kind choose
  kind_one k = rw k refl

  pub kind_two : kind ≡ 2 → by_kind kind a b c d e ≡ b
  unfolding by_kind choose
  kind_two k = rw k refl

  pub kind_three : kind ≡ 3 → by_kind kind a b c d e ≡ c
  unfolding by_kind choose
  kind_three k = rw k refl

  pub kind_four : kind ≡ 4 → by_kind kind a b c d e ≡ d
  unfolding by_kind choose
  kind_four k = rw k refl

  pub kind_none : kind ≢ 1 → kind ≢ 2 → kind ≢ 3 → kind ≢ 4 → by_kind kind a b c d e ≡ e
  unfolding by_kind
  kind_none p q r s = choose_no _ _ (ne_eqb kind 1 p)
      ∙ choose_no _ _ (ne_eqb kind 2 q) ∙ choose_no _ _ (ne_eqb kind 3 r) ∙ choose_no _ _ (ne_eqb kind 4 s)

-- The numbers of a message, as the code finds them.
use Rattle.std.specs.Prelude.{ℕ, min, ◌≡◌, refl, Bool, true, false, List, leb, length, take, drop}
use Rattle.std.proofs.Math.Path.{sym, ap}
use Rattle.std.proofs.Common.{◌∙◌, arith, leb-true, leb-false, take_all}
use Rattle.limits.specs.Limits.{most_bases}
use Rattle.lists.specs.Choice.Laws.{choose_yes, choose_no, first_none, first_given}
use Rattle.lists.specs.Lists.{zeros}
use Rattle.frame.specs.Message.{known, expected}
use Rattle.frame.specs.Reading.{list_refusal}
use Rattle.frame.proofs.Reading.Laws.{kind_passes, kind_unknown}
use Rattle.messages.specs.Messages.{message_refusal}

module _ (n kind : ℕ) (ids : List ℕ) where
  pub message_unknown : known kind ≡ false → 8 ≡ message_refusal n kind ids
  unfolding message_refusal
  message_unknown e = let k = kind_unknown n kind (expected kind n) e in sym (first_given _ (λ z. absurd (omega (arith, sym k ∙ z))) ∙ k)

  module _ (count : ℕ) (e : known kind ≡ true) (k : count ≡ expected kind n) where
    pub message_behind : zeros (drop count ids) ≡ false → 9 ≡ message_refusal n kind ids
    unfolding message_refusal
    message_behind z = sym (first_none _ (kind_passes n kind (expected kind n) e refl)
        ∙ choose_no _ _ (ap (λ (m : ℕ). zeros (drop m ids)) (sym k) ∙ z))

  pub message_list : (count r : ℕ)
      → known kind ≡ true → count ≡ expected kind n → zeros (drop count ids) ≡ true → r ≡ list_refusal (take count ids)
      → r ≡ message_refusal n kind ids
  unfolding message_refusal
  message_list count r e k z p = p ∙ ap (λ (m : ℕ). list_refusal (take m ids)) k
      ∙ sym (first_none _ (kind_passes n kind (expected kind n) e refl) ∙ choose_yes _ _ (ap (λ (m : ℕ). zeros (drop m ids)) (sym k) ∙ z))

-- where the kind holds more identifiers than an array has, all that it has
pub list_within : (ids : List ℕ) (count end : ℕ) → length ids ≡ most_bases → end ≡ min count most_bases
    → list_refusal (take end ids) ≡ list_refusal (take count ids)
list_within ids count end l e = ap list_refusal (go (leb count most_bases) refl)
  where
    go : (t : Bool) → leb count most_bases ≡ t → take end ids ≡ take count ids
    go true t = let same : end ≡ count = omega (arith, leb-true count most_bases t) in ap (λ (k : ℕ). take k ids) same
    go false t = let h = leb-false count most_bases t in
        take_all end ids (omega (arith, h)) ∙ sym (take_all count ids (omega (arith, h)))

-- A message that the numbers let pass is a valid message of the net, as one that was read is: what holds of an arrival's step holds
-- of its step. An array of u32 holds numbers below 2^32; of a list that is said beside it.
use Rattle.std.specs.Prelude.{ℕ, ◌-◌, ◌^◌, ◌≤◌, ◌≡◌, Bool, true, false, List, eqb, take}
use Rattle.std.proofs.Common.{sym, ◌∙◌, arith, eqb-true}
use Rattle.std.proofs.Math.Path.{ap, subst}
use Rattle.std.proofs.Math.ListN.{length}
use Rattle.std.proofs.Math.Seq.{length-take-le}
use Rattle.limits.specs.Limits.{most_bases}
use Rattle.lists.specs.Choice.{choose}
use Rattle.lists.specs.Choice.Laws.{choose_ind, first_passed}
use Rattle.lists.specs.Lists.{nonzero, ascending, Below}
use Rattle.frame.specs.Message.{expected, Valid}
use Rattle.frame.proofs.Message.Laws.{known_is}
use Rattle.frame.proofs.Reading.Laws.{kind_passed, list_passed, below_take}
use Rattle.frame.proofs.Reading.Theorems.{parts_message}
use Rattle.protocol.specs.declared.Base.{Base}
use Rattle.protocol.proofs.Sound.Laws.{record_passed}
use Rattle.protocol.specs.Steps.{Done, refuses, unless, arrival_step}
use Rattle.protocol.proofs.Steps.Refusals.{Heard}
use Rattle.change.specs.Heard.{message_in}
use Rattle.messages.specs.Messages.{message_refusal}
use Rattle.hearing.specs.Hearing.{hear_refusal, message_arrival}
use Rattle.hearing.specs.Hearing.Laws.{heard_passed, few}

list_left : (t : Bool) (r : ℕ) → choose t r 9 ≡ 0 → r ≡ 0
unfolding choose
list_left true r e = e
list_left false r e = absurd (omega arith)

module _ (n kind : ℕ) (ids : List ℕ) (most : n ≤ most_bases) (l : length ids ≡ most_bases) (words : Below (2 ^ 32) ids) where
  pub message_valid : message_refusal n kind ids ≡ 0 → Valid n (message_in n kind ids)
  unfolding message_refusal message_in
  message_valid e =
      let p = first_passed _ _ e in
      let k = (kind_passed n kind (expected kind n) p.0).0 in
      let L = list_passed (take (expected kind n) ids) (list_left _ _ p.1) in
      let c = length-take-le (expected kind n) ids (omega (arith, few kind n most)) in
      let m = parts_message kind n (take (expected kind n) ids) (known_is kind k) c in
      record {
        count = ap length m.1 ∙ c ∙ ap (λ (k : ℕ). expected k n) (sym m.0);
        above_zero = ap nonzero m.1 ∙ L.0;
        ascends = ap ascending m.1 ∙ L.1;
        words = subst (Below (2 ^ 32)) (sym m.1) (below_take (2 ^ 32) (expected kind n) ids words);
      }

module _ (b : Base) (link number kind : ℕ) (ids : List ℕ) (room : ℕ) where
  pub message_heard : length ids ≡ most_bases → Below (2 ^ 32) ids → hear_refusal b link number kind ids room ≡ 0
      → Heard b (link - 1) (message_in b.n kind ids)
  message_heard l words e =
      let H = heard_passed b link number kind ids room e in
      let R = H.place.ready in
      let N = (record_passed b R.refusal).net in
      record { refusal = R.refusal; place = R.here; valid = message_valid b.n kind ids N.most l words H.message }

  -- it is turned down and changes nothing, or it is a step
  pub message_cases : (P : Done → Type 0) → ((r : ℕ) → P (refuses b r))
      → (hear_refusal b link number kind ids room ≡ 0 → P (arrival_step b (link - 1) (message_in b.n kind ids)))
      → P (message_arrival b link number kind ids room)
  unfolding message_arrival unless
  message_cases P down on =
      let r = hear_refusal b link number kind ids room in choose_ind P (eqb r 0) (λ e. on (eqb-true r 0 e)) (λ _. down r)

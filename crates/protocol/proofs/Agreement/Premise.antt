-- The premise of the statement can be met, in every net size: the idle records that are made from n, t and different identifiers of 32 bits
-- are a net at the beginning. So the statement is about something.
use Rattle.std.specs.Prelude.{ℕ, ◌^◌, ◌≤◌, ◌<◌, ◌≡◌, refl}
use Rattle.std.proofs.Common.{sym, ◌∙◌, subst}
use Rattle.std.proofs.lemmas.List.{length-replicate, get_or-replicate}
use Rattle.limits.specs.Limits.{most_bases, most_links, list_room, most_faulty}
use Rattle.limits.specs.Refusals.{NetSize}
use Rattle.protocol.specs.Links.{no_link}
use Rattle.protocol.specs.Record.{link_at}
use Rattle.protocol.specs.Record.Memory.{SizedLink, Sized}
use Rattle.protocol.specs.Sound.{idle, empty_link, idle_base}
use Rattle.protocol.proofs.Sound.Laws.{setting_passes}
use Rattle.protocol.proofs.Sound.Idle.{idle_refusal}
use Rattle.protocol.specs.Agreement.{BaseOf, Fresh}
use Rattle.protocol.specs.Agreement.Premise.{idle_net}

idle_sized : (n t own : ℕ) → Sized (idle_base n t own)
unfolding idle_base link_at
idle_sized n t own = record {
  final = length-replicate {A = ℕ} most_bases 0;
  links = length-replicate most_links empty_link;
  each = λ i h. subst SizedLink (sym (get_or-replicate most_links i empty_link no_link h))
      (record { verifies = length-replicate {A = ℕ} list_room 0; list = length-replicate {A = ℕ} most_bases 0 });
}

pub idle_fresh : (n t : ℕ) (id : ℕ → ℕ) → NetSize n → t ≤ most_faulty n → ((b : ℕ) → BaseOf n b → (1 ≤ id b) × (id b < 2 ^ 32))
    → ((a b : ℕ) → BaseOf n a → BaseOf n b → id a ≡ id b → a ≡ b)
    → Fresh n t (idle_net n t id)
unfolding idle_net
idle_fresh n t id size limit range different = record {
  record_n = λ b B. (unfold idle_base in refl);
  record_t = λ b B. (unfold idle_base in refl);
  sound = λ b B. idle_refusal n t (id b) ∙ setting_passes size limit (range b B).0;
  idle = λ b B. (unfold idle idle_base in refl);
  sized = λ b B. idle_sized n t (id b);
  word = λ b B. (unfold idle_base in (range b B).1);
  different = λ a b A B e. different a b A B (unfold idle_base in e);
  silent = λ b B. refl;
  uncarried = λ a b k. refl;
}

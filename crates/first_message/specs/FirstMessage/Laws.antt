-- What a first message changes, as the code has it.
use Rattle.std.specs.Prelude.{ℕ, ◌-◌, ◌≡◌, List, length}
use Rattle.std.proofs.Common.{ap, ap₂, ◌∙◌}
use Rattle.protocol.specs.declared.Outcome.{Outcome}
use Rattle.change.specs.declared.Change.{Change}
use Rattle.accepting.specs.declared.Accepted.{Accepted}
use Rattle.deciding.specs.declared.Decision.{Decision}
use Rattle.responding.specs.Responding.{response_change}
use Rattle.start_frames.specs.declared.StartSizes.{StartSizes}
use Rattle.start_frames.specs.Frames.{start_frames, start_sizes}
use Rattle.first_message.specs.FirstMessage.{behind_start, first_change}

pub first_change_lem : (n own i : ℕ) (a : Accepted) (d : Decision) (ids : List ℕ) (room part : ℕ) (start : StartSizes) (o : Outcome)
    (rest : Change) → start ≡ start_sizes room → part ≡ room - length (start_frames own room)
    → rest ≡ response_change n i a d ids part → o ≡ behind_start start rest.outcome
    → ◌≡◌ {A = Change} (record {
      outcome = o;
      state = rest.state;
      sent = rest.sent;
      place = rest.place;
      link = rest.link;
      final_list = rest.final_list;
    }) (first_change n own i a d ids room)
unfolding first_change response_change
first_change_lem n own i a d ids room part start o rest e g p q =
    let k : rest ≡ response_change n i a d ids (room - length (start_frames own room)) = p ∙ ap (response_change n i a d ids) g in
    ap₂ (λ (x : Outcome) (c : Change). record {
      outcome = x;
      state = c.state;
      sent = c.sent;
      place = c.place;
      link = c.link;
      final_list = c.final_list;
    })
    (q ∙ ap₂ (λ (s : StartSizes) (c : Change). behind_start s c.outcome) e k) k

-- The start call, by its number and the base's state, and what a start answers and writes.
use Rattle.std.specs.Prelude.{ℕ, ◌*◌, ◌≤◌, ◌≡◌, ◌≢◌, List, length}
use Rattle.std.proofs.Math.Path.{refl, ap}
use Rattle.std.proofs.Common.{sym, ◌∙◌, arith, eq-eqb, ne_eqb}
use Rattle.limits.specs.Limits.{frame_bytes, output_room}
use Rattle.lists.specs.Choice.{first}
use Rattle.lists.specs.Choice.Laws.{choose_yes, choose_no, first_passed}
use Rattle.frame.specs.Encoding.{over}
use Rattle.protocol.specs.declared.Base.{Base}
use Rattle.protocol.specs.declared.Outcome.TheVariants.{Accepted}
use Rattle.protocol.specs.Sound.{idle, record_refusal}
use Rattle.protocol.specs.Steps.{refuses, discards, accepts, with_state, begins, start_step, output_refusal, start}
use Rattle.protocol.specs.Steps.{outcome_with, outcome_of, output_of}
use Rattle.protocol.proofs.Airtime.Laws.{start_alone}
use Rattle.protocol.proofs.Steps.Refusals.{unless_passed, unless_refused_lem, output_passed}
use Rattle.change.specs.declared.Change.{Change}
use Rattle.change.specs.Change.{changed_base, Does}
use Rattle.start_frames.specs.declared.StartSizes.{StartSizes}
use Rattle.start_frames.specs.Frames.{start_frames, start_sizes}
use Rattle.start_frames.specs.Frames.Laws.{start_sizes_are, start_says}

module _ (b : Base) (room r : ℕ) (e : r ≡ first (record_refusal b) (output_refusal room)) where
  pub start_down : r ≢ 0 → start b room ≡ refuses b r
  unfolding start
  start_down h = unless_refused_lem b _ (λ z. h (e ∙ z)) ∙ ap (refuses b) (sym e)

  pub start_wide : r ≡ 0 → output_room ≤ room
  start_wide z = output_passed room (first_passed _ _ (sym e ∙ z)).1

  pub start_idle : r ≡ 0 → b.state ≡ 0 → start b room ≡ begins b
  unfolding start start_step idle
  start_idle z k = unless_passed b _ (sym e ∙ z) ∙ choose_yes _ _ (eq-eqb b.state 0 k)

  pub start_on : r ≡ 0 → b.state ≢ 0 → start b room ≡ discards b
  unfolding start start_step idle
  start_on z k = unless_passed b _ (sym e ∙ z) ∙ choose_no _ _ (ne_eqb b.state 0 k)

-- ---- the two frames
begins_outcome : (b : Base) → Accepted (frame_bytes 1) (frame_bytes 1) 0 2 0 ≡ outcome_of (begins b)
unfolding begins accepts with_state outcome_with
begins_outcome b = sym (start_alone b.own Accepted)

pub begins_does : (b : Base) (c : Change) (s : StartSizes) (output after : List ℕ) → output_room ≤ length output
    → s ≡ start_sizes (length output)
    → c.outcome ≡ Accepted s.announce s.verify 0 s.slots 0 → changed_base b c ≡ with_state b 1
    → after ≡ over (start_frames b.own (length output)) output → Does b (begins b) c output after
unfolding output_of
begins_does b c s output after wide e p q r =
    let room : 2 * frame_bytes 1 ≤ length output = omega (arith, wide) in record {
      changes = record {
        outcome = p ∙ ap (λ (s : StartSizes). Accepted s.announce s.verify 0 s.slots 0) (e ∙ start_sizes_are (length output) room)
            ∙ begins_outcome b;
        base = q ∙ base;
      };
      written = r ∙ ap (λ (s : List ℕ). over s output) (start_says b (length output) room);
    }
  where
    base : with_state b 1 ≡ (begins b).base
    base = unfold begins accepts in refl

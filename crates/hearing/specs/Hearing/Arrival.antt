-- A message that no number turns down: what the code does in each state is what the arrival does.
use Rattle.std.specs.Prelude.{ℕ, ◌-◌, ◌≤◌, ◌<◌, ◌≡◌, ◌≢◌, true, take, drop}
use Rattle.std.proofs.Math.Path.{refl, sym, ap}
use Rattle.std.proofs.Common.{◌∙◌, arith}
use mathlib.Core.List.{List, ◌++◌}
use borrow.Author.Tests.{le-leb, eq-eqb}
use Rattle.std.proofs.Math.ListN.{length}
use Rattle.limits.specs.Limits.{most_bases, frame_bytes}
use Rattle.limits.specs.Refusals.{NetSize}
use Rattle.frame.specs.Encoding.{over}
use Rattle.frame.proofs.Encoding.Laws.{length_over, over_rest}
use Rattle.protocol.specs.declared.Base.{Base}
use Rattle.protocol.specs.declared.Outcome.{Outcome}
use Rattle.protocol.specs.Record.Memory.{Sized}
use Rattle.protocol.specs.Sound.{idle, stopped}
use Rattle.protocol.proofs.Sound.Laws.{record_passed}
use Rattle.protocol.specs.Steps.{Done, discards, with_state, on_message, arrival_step, encode_all, output_of}
use Rattle.protocol.specs.Steps.Cases.{begun}
use Rattle.protocol.proofs.Steps.Cases.{after_start, arrival_stopped, arrival_idle}
use Rattle.protocol.proofs.Steps.First.{idle_first}
use Rattle.change.specs.declared.Change.{Change}
use Rattle.change.specs.Change.{changed_base, ChangeOf, Does}
use Rattle.change.specs.Change.Laws.{does_as, discards_does}
use Rattle.change.specs.Heard.{message_in}
use Rattle.accepting.specs.declared.Accepted.{Accepted}
use Rattle.deciding.specs.declared.Decision.{Decision}
use Rattle.broadcasting.specs.Broadcasting.Laws.{rest_length}
use Rattle.settling.specs.Settling.{within_links, accepted_at, decided_at}
use Rattle.responding.specs.Responding.{response_frames, response_outcome, response_change}
use Rattle.start_frames.specs.Frames.{start_frames, start_length, start_sizes}
use Rattle.start_frames.specs.Frames.Laws.{start_long, start_fits, start_length_is, start_sizes_are, start_says}
use Rattle.first_message.specs.FirstMessage.{behind_start, first_frames, first_change}
use Rattle.hearing.specs.Hearing.{hear_refusal, message_arrival}
use Rattle.hearing.specs.Hearing.Laws.{HeardPassed, heard_passed, heard_on, message_passed}
use Rattle.hearing.specs.Hearing.Decided.Response.{response_does}
use Rattle.hearing.specs.Hearing.First.{Ready, ready_within, message_room, arrival_running, behind_does}

module _ (b : Base) (link number kind : ℕ) (ids output : List ℕ) (passes : hear_refusal b link number kind ids (length output) ≡ 0)
    (r : Change) where
  H : HeardPassed b link number kind ids (length output)
  H = heard_passed b link number kind ids (length output) passes

  R : Ready b (link - 1)
  R = H.place.ready

  N : NetSize b.n
  N = (record_passed b R.refusal).net

  goes_on : message_arrival b link number kind ids (length output) ≡ arrival_step b (link - 1) (message_in b.n kind ids)
  goes_on = heard_on b link number kind ids (length output) passes

  -- ---- a stopped base
  pub heard_stopped : 2 ≤ b.state → ChangeOf b (discards b) r
      → Does b (message_arrival b link number kind ids (length output)) r output output
  unfolding stopped
  heard_stopped t p =
      does_as (goes_on ∙ arrival_stopped b (link - 1) (message_in b.n kind ids) (le-leb 2 b.state t)) (discards_does b output p)

  module _ (z : length ids ≡ most_bases) (a : Accepted) (e : a ≡ accepted_at b (within_links (link - 1)) kind ids)
      (D : Decision) (f : D ≡ decided_at b (within_links (link - 1)) a kind ids) (after : List ℕ) where
    m : Done
    m = on_message (begun b) (link - 1) (message_in b.n kind ids)

    -- the response, written into the output or into a part of it
    responds : (part done : List ℕ) (c : Change) → length (encode_all m.says) ≤ length part
        → c ≡ response_change b.n (link - 1) a D ids (length part)
        → done ≡ over (response_frames b.n a.accepted D ids (length part)) part → Does b m c part done
    unfolding m
    responds part done c h p q =
        let w = ready_within b (link - 1) R in
        let M = message_passed b.n kind ids (omega (arith, N.least)) N.most z H.message in
        response_does b (link - 1) kind ids part N M z a D (e ∙ ap (λ (k : ℕ). accepted_at b k kind ids) w)
        (f ∙ ap (λ (k : ℕ). decided_at b k a kind ids) w) h c done p q

    -- ---- a running base
    pub heard_running : b.state < 2 → b.state ≢ 0 → r ≡ response_change b.n (link - 1) a D ids (length output)
        → after ≡ over (response_frames b.n a.accepted D ids (length output)) output
        → Does b (message_arrival b link number kind ids (length output)) r output after
    unfolding m with_state
    heard_running t k p q =
        does_as (goes_on ∙ arrival_running b (link - 1) (message_in b.n kind ids) t k)
        (responds output after r (omega (arith, H.place.wide, message_room (begun b) (link - 1) kind ids N)) p q)

    -- ---- an idle base: the frames of the start, and those of the message in the rest of the output
    start : List ℕ
    start = start_frames b.own (length output)

    rest : List ℕ
    rest = let o = over start output in take (length o - length start) (drop (length start) o)

    start_room : length start ≤ length output
    unfolding start
    start_room = omega (arith, start_long b.own (length output), start_fits (length output))

    rest_long : length rest ≡ length output - length start
    unfolding rest
    rest_long = rest_length (over start output) (length start) ∙ ap (λ (k : ℕ). k - length start) (length_over start output start_room)

    -- the same bytes in the rest, behind the same start
    behind : (s t : List ℕ) → over s rest ≡ over t rest → over (start ++ s) output ≡ over (start ++ t) output
    unfolding rest
    behind s t p =
        sym (over_rest start s output _ _ _ _ refl refl refl refl) ∙ over_rest start t output _ _ _ _ refl refl refl p

    first_outcome : ℕ → Outcome
    first_outcome l =
        behind_start (start_sizes (length output)) (response_outcome b.n a.accepted D ids l)

    starts : Sized b → idle b ≡ true → r ≡ first_change b.n b.own (link - 1) a D ids (length output)
        → after ≡ over (first_frames b.n b.own a.accepted D ids (length output)) output
        → Does b (after_start b m) r output after
    unfolding m start first_outcome first_change first_frames response_change changed_base output_of with_state
    starts Z k p q =
        let room = length output in
        let wide = H.place.wide in
        let quiet = idle_first b Z R.refusal k (link - 1) R.here (message_in b.n kind ids) in
        let one : start_length room ≡ frame_bytes 1 = start_length_is room (omega (arith, wide)) in
        let T = responds rest _ _ (omega (arith, wide, quiet.brief.small, rest_long, start_long b.own room, one)) refl refl in
        let same : room - length start ≡ length rest = sym rest_long in
        behind_does b m _ r (start_sizes room) _ _ output after T quiet.not_own (start_sizes_are room (omega (arith, wide)))
        (ap (λ (c : Change). c.outcome) p ∙ ap first_outcome same)
        (ap (changed_base b) p)
        (q ∙ ap (λ (l : ℕ). over (start ++ response_frames b.n a.accepted D ids l) output) same
        ∙ behind _ _ T.written
        ∙ ap (λ (s : List ℕ). over (s ++ encode_all m.says) output) (start_says b room (omega (arith, wide))))

    pub heard_idle : Sized b → b.state ≡ 0 → r ≡ first_change b.n b.own (link - 1) a D ids (length output)
        → after ≡ over (first_frames b.n b.own a.accepted D ids (length output)) output
        → Does b (message_arrival b link number kind ids (length output)) r output after
    unfolding m idle
    heard_idle Z k p q =
        let s = eq-eqb b.state 0 k in
        does_as (goes_on ∙ arrival_idle b (link - 1) (message_in b.n kind ids) s) (starts Z s p q)

-- `first_message::respond_first` meets its contract: the message's frames go into the rest of the output, behind those of the start.
-- the length of each frame of the start
use Rattle.first_message.specs.FirstMessage.{first_frames}
use Rattle.first_message.specs.FirstMessage.Laws.{first_change_lem}
use Rattle.start_frames.specs.declared.StartSizes.{StartSizes}
use Rattle.start_frames.specs.Frames.{start_frames, start_length, start_sizes}
use Rattle.start_frames.specs.Frames.Laws.{start_long, start_fits, start_short}
use Rattle.responding.specs.Responding.{response_frames}
use Rattle.broadcasting.specs.Broadcasting.Laws.{rest_length}
use Rattle.frame.proofs.Encoding.Laws.{over_rest}
use Rattle.frame.specs.Encoding.{over}
use lib.ListN.{length, take, drop}
use native.Mathlib.Omega.{arith}
use mathlib.Core.Path.{◌≡◌, refl, ap, ◌∙◌}
use Prim.Native.Nat.{ℕ, ◌+◌, ◌-◌}
use Rattle.first_message.proofs.respond_first.Goals as goal

pub overflow_add-behind : goal.overflow_add-behind
unfolding start_sizes
overflow_add-behind c = let announce : c.begin-start.result.announce ≡ start_length (length c.args.out.now) =
    ap (λ (s : StartSizes). s.announce) c.begin-start.ensures.0 in
    let verify : c.begin-start.result.verify ≡ start_length (length c.args.out.now) =
    ap (λ (s : StartSizes). s.verify) c.begin-start.ensures.0 in
    omega (arith, announce, verify, start_short (length c.args.out.now))

pub slice_bounds-respond-count : goal.slice_bounds-respond-count
unfolding start_sizes
slice_bounds-respond-count c = let announce : c.begin-start.result.announce ≡ start_length (length c.args.out.now) =
    ap (λ (s : StartSizes). s.announce) c.begin-start.ensures.0 in
    let verify : c.begin-start.result.verify ≡ start_length (length c.args.out.now) =
    ap (λ (s : StartSizes). s.verify) c.begin-start.ensures.0 in
    omega (arith, announce, verify, start_fits (length c.args.out.now), c.begin-start.auto)

pub slice_bounds-respond-start : goal.slice_bounds-respond-start
unfolding start_sizes
slice_bounds-respond-start c = let announce : c.begin-start.result.announce ≡ start_length (length c.args.out.now) =
    ap (λ (s : StartSizes). s.announce) c.begin-start.ensures.0 in
    let verify : c.begin-start.result.verify ≡ start_length (length c.args.out.now) =
    ap (λ (s : StartSizes). s.verify) c.begin-start.ensures.0 in
    omega (arith, announce, verify, start_fits (length c.args.out.now), c.begin-start.auto)

pub returns : goal.returns
unfolding first_frames start_sizes
returns c = let announce : c.begin-start.result.announce ≡ start_length (length c.args.out.now) =
    ap (λ (s : StartSizes). s.announce) c.begin-start.ensures.0 in
    let verify : c.begin-start.result.verify ≡ start_length (length c.args.out.now) =
    ap (λ (s : StartSizes). s.verify) c.begin-start.ensures.0 in
    let a = c.args in
    let room = length a.out.now in let o = c.begin-start.new.out in let k = c.begin-start.result.announce + c.begin-start.result.verify in
    let size : k ≡ length (start_frames a.own room) = omega (arith, announce, verify, start_long a.own room) in
    let part : length (take (length o - k) (drop k o)) ≡ room - length (start_frames a.own room) =
    omega (arith, rest_length o k, c.begin-start.auto, size) in (
      first_change_lem a.n a.own a.i a.accepted a.decision a.ids room _ _ _ _
          c.begin-start.ensures.0 part c.respond-rest.ensures.0 c.behind_start.ensures,
      over_rest _ _ _ _ _ _ _ size refl c.begin-start.ensures.1
          (c.respond-rest.ensures.1 ∙ ap (λ (m : ℕ). over (response_frames a.n a.accepted.accepted a.decision a.ids m)
          (take (length o - k) (drop k o))) part),
    )

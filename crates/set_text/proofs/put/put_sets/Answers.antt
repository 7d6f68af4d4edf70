-- `set_text::put::put_sets` meets its contract. Invariant: the lines of the sets below the number are put.
use native.Mathlib.Omega.{arith}
use Prim.Native.Nat.{ℕ, ◌+◌, ◌*◌, ◌-◌, ◌≤◌, ◌<◌}
use mathlib.Core.Path.{refl, sym, ap, ◌∙◌}
use lib.ListN.{length}
use lib.Seq.{take_all}
use Rattle.limits.specs.Limits.{small_bases}
use Rattle.link_sets.specs.Count.{set_count}
use Rattle.link_sets.specs.Sets.{faulty_sets, faulty_set_at}
use Rattle.print.specs.Put.Laws.{put_none, put_as, put_then, text_length}
use Rattle.faulty_sets.specs.Answers.{answered_links}
use Rattle.faulty_sets.specs.Answers.Laws.{set_answered, sets_few}
use Rattle.faulty_sets.specs.Small.{small_faulty}
use Rattle.set_text.specs.Text.{set_room, lines_from}
use Rattle.set_text.proofs.Text.Laws.{lines_none, lines_more, room_left}
use Rattle.set_text.proofs.put.put_sets.Goals as goal

pub loop-number-init : goal.loop-number-init
loop-number-init c = (omega arith, omega arith, refl, put_as (sym lines_none) (put_none _ _))

pub put_set-at-requires : goal.put_set-at-requires
put_set-at-requires c = let room : (number : ℕ) → number < c.args.count
    → set_room * number + set_room ≤ length c.args.out.now = λ number less. let few : c.args.count ≤ set_count small_bases small_faulty =
    omega (arith, c.requires.1, sets_few c.args.n c.args.t c.requires.0) in room_left number c.args.count _ less few c.requires.2 in
    omega (arith, c.loop-number.invariant.1, c.loop-number.invariant.2, room c.loop-number.number c.loop-number-test.true)

pub loop-number-preserved : goal.loop-number-preserved
unfolding faulty_set_at
loop-number-preserved c =
    let less = c.loop-number-test.true in
    let set = ap answered_links c.faulty_set.ensures
    ∙ set_answered c.args.n c.args.t c.loop-number.number c.requires.0 (omega (arith, less, c.requires.1)) in (
      omega (arith, less),
      omega (arith, c.loop-number.invariant.1, c.put_set-at.ensures.upper_bound),
      text_length c.put_set-at.ensures.put ∙ c.loop-number.invariant.2,
      put_as (lines_more c.loop-number.number (faulty_sets c.args.n c.args.t) (omega (arith, less, c.requires.1)) set)
          (put_then c.loop-number.invariant.3 c.put_set-at.ensures.put),
    )

pub shape_of-out : goal.shape_of-out
shape_of-out c = c.loop-number.invariant.2

pub returns : goal.returns
returns c =
    let all = take_all c.loop-number.number (faulty_sets c.args.n c.args.t) (omega (
      arith,
      c.loop-number.invariant.0,
      c.loop-number-test.false,
      c.requires.1,
    )) in
    put_as (ap (lines_from 0) all) c.loop-number.invariant.3

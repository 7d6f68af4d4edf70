-- `state_text::put_stopped` meets its contract: the word, the list in the array's front, and the leader.
use native.Mathlib.Omega.{arith}
use Prim.Native.Nat.{ℕ, ◌+◌, ◌*◌, ◌≤◌}
use mathlib.Core.Path.{◌≡◌, sym, ap, ◌∙◌}
use mathlib.Core.List.{◌++◌, append_assoc}
use lib.ListN.{length, take}
use lib.Seq.{length-take-le}
use Rattle.limits.specs.Limits.{most_bases}
use Rattle.print.specs.Decimal.{field_text}
use Rattle.print.specs.Decimal.Laws.{few_field}
use Rattle.print.specs.Put.Laws.{put_as, put_fits, put_then, put_next, text_length, step}
use Rattle.schedule.specs.Report.{identifier_digits, identifier_room, leader_text, list_text, final_text}
use Rattle.protocol.specs.Steps.{leader_of}
use Rattle.lists.specs.Lists.Laws.{take_least}
use Rattle.state_text.proofs.put_stopped.Goals as goal

pub slice_bounds-ids-end : goal.slice_bounds-ids-end
slice_bounds-ids-end c = let sized : length c.args.ids ≡ most_bases = c.well_formed.1.1.1.0.1.0.1 in
    let room : c.least-count.result ≤ length c.args.ids = omega (arith, sized, c.least-count.ensures) in
    room

pub slice_bounds-put_list-end : goal.slice_bounds-put_list-end
slice_bounds-put_list-end c = let sized : length c.args.ids ≡ most_bases = c.well_formed.1.1.1.0.1.0.1 in
    let room : c.least-count.result ≤ length c.args.ids = omega (arith, sized, c.least-count.ensures) in
    let count_is : length (take c.least-count.result c.args.ids) ≡ c.least-count.result =
    length-take-le c.least-count.result c.args.ids room in
    sym count_is

pub put_list-second-requires : goal.put_list-second-requires
put_list-second-requires c = let sized : length c.args.ids ≡ most_bases = c.well_formed.1.1.1.0.1.0.1 in
    let room : c.least-count.result ≤ length c.args.ids = omega (arith, sized, c.least-count.ensures) in
    let count_is : length (take c.least-count.result c.args.ids) ≡ c.least-count.result =
    length-take-le c.least-count.result c.args.ids room in
    let A = put_fits (length c.args.word.now) (omega (arith, c.requires)) (
      c.put_text-first.ensures.value,
      c.put_text-first.ensures.out_after,
    ) in
    omega (arith, A.past, text_length A, count_is, c.least-count.ensures, c.requires)

pub slice_bounds-ids-end-2 : goal.slice_bounds-ids-end-2
slice_bounds-ids-end-2 c = let sized : length c.args.ids ≡ most_bases = c.well_formed.1.1.1.0.1.0.1 in
    let room : c.least-count.result ≤ length c.args.ids = omega (arith, sized, c.least-count.ensures) in
    room

pub slice_bounds-leader_of-end : goal.slice_bounds-leader_of-end
slice_bounds-leader_of-end c = let sized : length c.args.ids ≡ most_bases = c.well_formed.1.1.1.0.1.0.1 in
    let room : c.least-count.result ≤ length c.args.ids = omega (arith, sized, c.least-count.ensures) in
    let count_is : length (take c.least-count.result c.args.ids) ≡ c.least-count.result =
    length-take-le c.least-count.result c.args.ids room in
    sym
    count_is

pub returns : goal.returns
unfolding final_text
returns c = let sized : length c.args.ids ≡ most_bases = c.well_formed.1.1.1.0.1.0.1 in
    let room : c.least-count.result ≤ length c.args.ids = omega (arith, sized, c.least-count.ensures) in
    let count_is : length (take c.least-count.result c.args.ids) ≡ c.least-count.result =
    length-take-le c.least-count.result c.args.ids room in
    let list_is : take c.least-count.result c.args.ids ≡ take c.args.n c.args.ids =
    take_least c.args.n c.least-count.result most_bases c.args.ids sized c.least-count.ensures in
    let w = c.args.word.now in
    let l = take c.args.n c.args.ids in
    let v = c.leader_of.result in
    let few = few_field identifier_digits leader_text v (omega arith) (omega arith) in
    let A = put_fits (length w) (omega (arith, c.requires)) (c.put_text-first.ensures.value, c.put_text-first.ensures.out_after) in
    let far : c.put_list-second.result ≤ c.args.at + length w + identifier_room * most_bases =
    omega (arith, A.past, c.put_list-second.ensures.upper_bound, count_is, c.least-count.ensures) in
    let L = put_then A (put_as (ap list_text list_is) c.put_list-second.ensures.put) in
    let P = put_next (length (field_text leader_text v)) (field_text leader_text v)
    L (omega (arith, few, far, c.requires)) (c.put_field.ensures.value, c.put_field.ensures.out_after) in record {
      put = put_as (append_assoc w (list_text l) _ ∙ ap (λ (x : ℕ). w ++ (list_text l ++ field_text leader_text x))
          (c.leader_of.ensures ∙ ap leader_of list_is)) P;
      upper_bound = omega (arith, few, far, step (field_text leader_text v) L P);
    }

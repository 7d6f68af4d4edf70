-- `bursts::body_refusal` meets its contract: the array's first identifiers are those of the burst.
use Prim.Native.Nat.{◌≤◌}
use mathlib.Core.Path.{sym, ap, ap₂, ◌∙◌}
use native.Mathlib.Omega.{arith}
use lib.Seq.{length-take-le}
use lib.ListN.{length, take}
use Rattle.decoding.specs.Decoding.Laws.{array_front, length_array}
use Rattle.decoding.specs.Decoding.{id_array}
use Rattle.frame.specs.Reading.{list_refusal, count_byte, from_end}
use Rattle.bursts.proofs.body_refusal.Goals as goal

pub slice_bounds-ids-end : goal.slice_bounds-ids-end
unfolding count_byte from_end
slice_bounds-ids-end c = let few : c.wide-count.result ≤ length c.id_array-ids.result = let pre = c.requires in
    omega (arith, c.wide-count.ensures, pre.few, ap length c.id_array-ids.ensures ∙ length_array _) in
    few

pub slice_bounds-list_refusal-end : goal.slice_bounds-list_refusal-end
unfolding count_byte from_end
slice_bounds-list_refusal-end c = let few : c.wide-count.result ≤ length c.id_array-ids.result = let pre = c.requires in
    omega (arith, c.wide-count.ensures, pre.few, ap length c.id_array-ids.ensures ∙ length_array _) in
    sym (length-take-le _ _ few)

pub returns : goal.returns
unfolding count_byte from_end
returns c =
    let a = c.args in
    let pre = c.requires in
    let body-in = c.body_in in
    let s = a.burst.now in
    c.list_refusal.ensures
    ∙ ap list_refusal (ap₂ take c.wide-count.ensures (c.id_array-ids.ensures ∙ ap id_array body-in.ensures) ∙ array_front s pre)

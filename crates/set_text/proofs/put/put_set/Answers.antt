-- `set_text::put::put_set` meets its contract: the word and the number, the line feed, and the lines of the links.
-- the first line
use native.Mathlib.Omega.{arith}
use Prim.Native.Nat.{◌+◌, ◌≤◌}
use mathlib.Core.Path.{refl}
use mathlib.Core.List.{◌++◌}
use lib.ListN.{length}
use Rattle.print.specs.Decimal.{most_digits, field_text}
use Rattle.print.specs.Decimal.Laws.{most_field}
use Rattle.print.specs.Put.{Put}
use Rattle.print.specs.Put.Laws.{put_fits, put_next, put_as, put_then, step, text_length}
use Rattle.schedule.specs.Report.{feed}
use Rattle.set_text.specs.Text.{set_word}
use Rattle.set_text.proofs.Text.Laws.{set_nothing, set_linked}
use Rattle.set_text.proofs.put.put_set.Goals as goal

pub returns-in_default : goal.returns-in_default
returns-in_default c = let headed : Put c.args.out.now c.args.at
    (field_text set_word c.args.number ++ feed) c.put_text-end.new.out c.put_text-end.result × (c.put_text-end.result ≤ c.args.at +
    (length set_word + most_digits + length feed)) = let a = c.args in let t = field_text set_word a.number in
    let few = most_field set_word a.number in
    let A = put_fits (length t) (omega (arith, few, c.requires)) (
      c.put_field-line.ensures.value,
      c.put_field-line.ensures.out_after,
    ) in
    let P = put_next (length feed) feed A (omega (arith, few, c.requires, A.past)) (
      c.put_text-end.ensures.value,
      c.put_text-end.ensures.out_after,
    ) in (P, omega (arith, A.past, few, step feed A P)) in
    let h = headed in record { put = put_as (set_nothing _ _ c.in_default.is) h.0; upper_bound = omega (arith, h.1) }

pub put_pairs-requires : goal.put_pairs-requires
put_pairs-requires c = let headed : Put c.args.out.now c.args.at
    (field_text set_word c.args.number ++ feed) c.put_text-end.new.out c.put_text-end.result × (c.put_text-end.result ≤ c.args.at +
    (length set_word + most_digits + length feed)) = let a = c.args in let t = field_text set_word a.number in
    let few = most_field set_word a.number in
    let A = put_fits (length t) (omega (arith, few, c.requires)) (
      c.put_field-line.ensures.value,
      c.put_field-line.ensures.out_after,
    ) in
    let P = put_next (length feed) feed A (omega (arith, few, c.requires, A.past)) (
      c.put_text-end.ensures.value,
      c.put_text-end.ensures.out_after,
    ) in (P, omega (arith, A.past, few, step feed A P)) in
    let h = headed in
    (omega (arith, h.1, text_length h.0, c.requires), omega (arith, c.least.ensures), refl)

pub returns : goal.returns
returns c = let headed : Put c.args.out.now c.args.at
    (field_text set_word c.args.number ++ feed) c.put_text-end.new.out c.put_text-end.result × (c.put_text-end.result ≤ c.args.at +
    (length set_word + most_digits + length feed)) = let a = c.args in let t = field_text set_word a.number in
    let few = most_field set_word a.number in
    let A = put_fits (length t) (omega (arith, few, c.requires)) (
      c.put_field-line.ensures.value,
      c.put_field-line.ensures.out_after,
    ) in
    let P = put_next (length feed) feed A (omega (arith, few, c.requires, A.past)) (
      c.put_text-end.ensures.value,
      c.put_text-end.ensures.out_after,
    ) in (P, omega (arith, A.past, few, step feed A P)) in
    let h = headed in record {
      put =
          put_as (set_linked _ _ _ _ c.in-Links.is c.least.ensures) (put_then h.0 c.put_pairs.ensures.put);
      upper_bound =
          omega (arith, h.1, c.put_pairs.ensures.upper_bound);
    }

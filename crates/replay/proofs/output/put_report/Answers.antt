-- `replay::output::put_report` meets its contract: the lines one after another, then the line that is turned down, or the lines of all
-- bases and `waiting`.
-- ---- the net behind the last line
use native.Mathlib.Omega.{arith}
use Prim.Native.Nat.{ℕ, ◌*◌, ◌≤◌}
use mathlib.Core.Path.{◌≡◌, refl, ap, ◌∙◌}
use mathlib.Core.List.{List, ◌++◌}
use borrow.Author.Tests.{eq-eqb, ne_eqb}
use lib.ListN.{length}
use Rattle.lists.specs.Choice.Laws.{chosen_yes, chosen_no}
use Rattle.limits.specs.Limits.{most_bases}
use Rattle.print.specs.Put.Laws.{put_as, put_then, text_length, put_fits}
use Rattle.net.specs.declared.StoredNet.{StoredNet}
use Rattle.net.specs.Abstraction.{net_of, size}
use Rattle.net.specs.Header.{begun_net}
use Rattle.schedule.specs.Report.{line_room, base_lines, waiting_line}
use Rattle.schedule.specs.Walk.{next_line, repeat}
use Rattle.schedule.proofs.Walk.Laws.{repeat_none, repeat_done}
use Rattle.stored_walk.specs.State.{report_net, replaying, line_after}
use Rattle.stored_walk.specs.State.Laws.{next_refused}
use Rattle.stored_walk.specs.State.Walked.{LinesWalked, lines_walked}
use Rattle.replay.proofs.output.put_report.Goals as goal

pub returns-then-header-ne0 : goal.returns-then-header-ne0
unfolding report_net begun_net
returns-then-header-ne0 c = let s = c.args.s.now in
    let down = c.if-header-ne0.true in record {
      put = put_as (chosen_no _ (ne_eqb _ 0 down) refl
          ∙ ap report_net (repeat_done (length s) 0 _ _ (omega arith) (repeat_none _ _)
          (next_refused s (begun_net c.args.header) down)))
          (put_fits line_room (omega (arith, c.requires.s_len_bound.1))
          (c.refused_line.ensures.value, c.refused_line.ensures.out_after));
      upper_bound = omega (arith, c.refused_line.ensures.upper_bound);
    }

pub returns-then-net-ne0 : goal.returns-then-net-ne0
unfolding report_net begun_net
returns-then-net-ne0 c = let text : List ℕ = c.args.s.now in
    let begin : StoredNet = begun_net c.args.header in
    let all_lines : LinesWalked text begin (length text) =
    lines_walked text begin (length text) (c.requires.line_le_most_header_line.1 c.if-header-ne0.false) (omega (
      arith,
      c.requires.line_le_most_header_line.0,
      c.requires.s_len_bound.0,
    )) in
    let walks : c.line_steps-net.result ≡ repeat (length text) (next_line replaying text) begin =
    c.line_steps-net.ensures ∙ ap (repeat (length text) (line_after text)) c.begun_net.ensures ∙ all_lines.is in
    let down = c.if-net-ne0.true in record {
      put = put_as (chosen_no _ (ne_eqb _ 0 down) refl ∙ ap report_net walks)
          (put_fits line_room (omega (arith, c.requires.s_len_bound.1)) (
            c.refused_line-then-net-ne0.ensures.value,
            c.refused_line-then-net-ne0.ensures.out_after,
          ));
      upper_bound = omega (arith, c.refused_line-then-net-ne0.ensures.upper_bound);
    }

pub returns : goal.returns
unfolding report_net size begun_net
returns c = let text : List ℕ = c.args.s.now in
    let begin : StoredNet = begun_net c.args.header in
    let all_lines : LinesWalked text begin (length text) =
    lines_walked text begin (length text) (c.requires.line_le_most_header_line.1 c.if-header-ne0.false) (omega (
      arith,
      c.requires.line_le_most_header_line.0,
      c.requires.s_len_bound.0,
    )) in
    let walks : c.line_steps-net.result ≡ repeat (length text) (next_line replaying text) begin =
    c.line_steps-net.ensures ∙ ap (repeat (length text) (line_after text)) c.begun_net.ensures ∙ all_lines.is in
    let bases : c.line_steps-net.result.n ≤ most_bases =
    omega (arith, c.requires.line_le_most_header_line.1 c.if-header-ne0.false, all_lines.bases, ap (λ (w : StoredNet). w.n) walks) in
    let w = c.line_steps-net.result in
    let all : size w ≡ w.n = omega (arith, bases) in
    let B = put_as (ap (λ (k : ℕ). base_lines k (net_of w)) all)
    (put_fits (line_room * most_bases) (omega (arith, c.requires.s_len_bound.1)) (
      c.base_lines-end.ensures.value,
      c.base_lines-end.ensures.out_after,
    )) in
    let P = put_fits line_room (omega (
      arith,
      c.base_lines-end.ensures.upper_bound,
      bases,
      c.requires.s_len_bound.1,
      text_length B,
    )) (c.waiting_line.ensures.value, c.waiting_line.ensures.out_after) in record {
      put = put_as (ap (λ (k : ℕ). base_lines w.n (net_of w) ++ waiting_line k) c.waiting.ensures
          ∙ chosen_yes _ (eq-eqb _ 0 c.if-net-ne0.false) refl
          ∙ ap report_net walks) (put_then B P);
      upper_bound = omega (arith, c.base_lines-end.ensures.upper_bound, bases, c.waiting_line.ensures.upper_bound);
    }

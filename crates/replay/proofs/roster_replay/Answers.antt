-- `replay::roster_replay` meets its contract: what is put at the output's front is the report of the schedule.
use native.Mathlib.Omega.{arith}
use mathlib.Core.Path.{◌≡◌, refl, sym, subst}
use borrow.Author.Tests.{lt-ltb, le-ltb}
use Prim.Native.Nat.{◌≤◌}
use Rattle.limits.specs.Limits.{most_bases}
use Rattle.lists.specs.Choice.Laws.{chosen_yes, chosen_no}
use Rattle.frame.specs.Encoding.{over}
use Rattle.net.specs.declared.StoredNet.{StoredNet}
use Rattle.net.specs.Header.{begun_net}
use Rattle.print.specs.Put.Laws.{put_as, put_front, put_fits}
use Rattle.schedule.specs.Report.{line_room, replay_length, replay_output}
use Rattle.stored_walk.specs.Follows.{header_few, long_report, lines_report}
use Rattle.replay.proofs.roster_replay.Goals as goal

pub returns-then-out-lt-REPORT_ROOM : goal.returns-then-out-lt-REPORT_ROOM
unfolding replay_length replay_output
returns-then-out-lt-REPORT_ROOM c = let e = lt-ltb _ _ c.if-out-lt-REPORT_ROOM.true in
    record { value = chosen_yes _ e refl; out_after = chosen_yes _ e refl; upper_bound = omega arith }

pub returns-then-schedule-gt-LONGEST_SCHEDULE : goal.returns-then-schedule-gt-LONGEST_SCHEDULE
unfolding replay_length replay_output over
returns-then-schedule-gt-LONGEST_SCHEDULE c = let s = c.args.schedule.now in
    let room = c.if-out-lt-REPORT_ROOM.false in
    let P = put_as (long_report s c.if-schedule-gt-LONGEST_SCHEDULE.true)
    (put_fits line_room (omega (arith, room)) (c.refused_line.ensures.value, c.refused_line.ensures.out_after)) in
    let f = put_front (omega (arith, P.past, c.refused_line.ensures.upper_bound, room)) P in
    let e = le-ltb _ _ room in record {
      value = chosen_no _ e f.0;
      out_after = chosen_no _ e f.1;
      upper_bound =
          omega (arith, c.refused_line.ensures.upper_bound, room);
    }

pub put_report-requires : goal.put_report-requires
unfolding begun_net
put_report-requires c =
    let s = c.args.schedule.now in record {
      line_le_most_header_line = (
        c.read_header.ensures.line_le_most_header_line,
        subst (λ (p : StoredNet). p.refusal ≡ 0 → p.n ≤ most_bases) (sym c.read_header.ensures.result_value) (header_few s),
      );
      s_len_bound = (c.if-schedule-gt-LONGEST_SCHEDULE.false, omega (arith, c.if-out-lt-REPORT_ROOM.false));
    }

pub returns : goal.returns
unfolding replay_length replay_output over
returns c = let s = c.args.schedule.now in
    let room = c.if-out-lt-REPORT_ROOM.false in
    let P = put_as (lines_report s c.if-schedule-gt-LONGEST_SCHEDULE.false
    c.read_header.ensures.result_value) c.put_report.ensures.put in
    let f = put_front (omega (arith, P.past, c.put_report.ensures.upper_bound, room)) P in
    let e = le-ltb _ _ room in record {
      value = chosen_no _ e f.0;
      out_after = chosen_no _ e f.1;
      upper_bound =
          omega (arith, c.put_report.ensures.upper_bound, room);
    }

-- `set_text::put_net` meets its contract: all sets, or the line that refuses the net.
use native.Mathlib.Omega.{arith}
use mathlib.Core.Path.{sym, ◌∙◌}
use Rattle.print.specs.Put.Laws.{put_as, put_fits}
use Rattle.schedule.specs.Report.{line_room}
use Rattle.faulty_sets.specs.Answers.Laws.{sets_told, refused_told}
use Rattle.set_text.proofs.Text.Laws.{net_listed, net_refused, room_is}
use Rattle.set_text.proofs.put_net.Goals as goal

pub put_sets-requires : goal.put_sets-requires
put_sets-requires c =
    let told = sets_told _ _ (sym c.in-Sets.is ∙ c.faulty_count.ensures) in
    (told.0, told.1, c.requires)

pub returns-in-Sets : goal.returns-in-Sets
returns-in-Sets c =
    let told = sets_told _ _ (sym c.in-Sets.is ∙ c.faulty_count.ensures) in
    put_as (net_listed _ _ told.0) c.put_sets.ensures

pub returns-in-Refused : goal.returns-in-Refused
returns-in-Refused c =
    let told = refused_told _ _ (sym c.in-Refused.is ∙ c.faulty_count.ensures) in
    put_as (net_refused _ _ told.0 told.1)
    (put_fits line_room (omega (arith, room_is, c.requires)) (c.refused_line.ensures.value, c.refused_line.ensures.out_after))

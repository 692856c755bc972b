-- The lines of low entries are the same in the reports of two runs that agree.
use Rattle.std.proofs.Common.{suc, List, ap, ◌∙◌, slice_get}
use Rattle.ix_model.specs.history.Events.{Event}
use Rattle.ix_iso.proofs.Noninterference.{alike_runs}
use Rattle.ix_script.specs.{lines.Before.lanes_of, declared.line.Line.Line}
use Rattle.ix_replay.specs.report.Report.{entry_lines}
use Rattle.ix_twin.proofs.LinesAlike.{agree_up_to, lines_along}
use Rattle.ix_host.specs.Noninterference.{HidesLines, world_opened}

pub low_lines : (s : List Line) (history : List Event) → HidesLines s history
low_lines s history l t others lanes agree n e is none low form =
    let both = alike_runs l (world_opened s) (world_opened t) history others agree in
    lines_along l form (lanes_of s) (world_opened s) (world_opened t) 1 history others n e both.0
    (agree_up_to l (world_opened s) (world_opened t) 1 (suc n) history others both.1) is none low
    ∙ ap (λ names. slice_get (entry_lines form names 1 (world_opened t) others) n) lanes

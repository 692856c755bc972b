use Rattle.std.proofs.Common.{◌≡◌, true, length, sym, ◌∙◌, subst}
use Rattle.ix_lanes.specs.running.{Phases.lines_before, Runs.Ran, Stretches.TellsPart}
use Rattle.ix_lanes.proofs.running.lane_run.LaneRun.takes_part.Goals as goal

pub returns : goal.returns
returns c =
    let same = c.self.invariant.script in
    subst (λ (r : Ran). r.between ≡ true → c.args.phase ≡ r.done → TellsPart r.script r.lane c.args.phase c.has_lines_in.result) c.self.view_is
    (λ between next. subst (λ t. TellsPart t c.self.inside.calls.seat c.args.phase c.has_lines_in.result) same
    (c.has_lines_in.ensures between (c.self.invariant.end between ∙ (λ x. length (lines_before (sym next x) (sym same x))))))

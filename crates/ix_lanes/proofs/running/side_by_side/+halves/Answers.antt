use Rattle.std.proofs.Common.{◌++◌, subst, sym}
use Rattle.ix_lanes.{specs.running.SideBySide.AllRun, proofs.phased.SideBySide.{both_run, one_runs}}
use Rattle.ix_lanes.proofs.running.side_by_side.+halves.Goals as goal

pub run_all-returns-then-runners-eq1 : goal.run_all-returns-then-runners-eq1
run_all-returns-then-runners-eq1 g t c = one_runs g.T.Runner.runs c.args.runners.now c.index-runners-0.result c.run_next.new.self c.run_next.result c.if-runners-eq1.true c.run_next.ensures

pub run_all-returns : goal.run_all-returns
run_all-returns g t c =
    let both = c.run_both.ensures in
    subst (λ l. AllRun g.T.Runner.runs l (c.run_both.new.front ++ c.run_both.new.back) c.run_both.result) (sym c.split_at_mut-front.ensures.value)
    (both_run g.T.Runner.runs _ _ _ _ both.0 both.1 c.run_both.result both.2 both.3 both.4)

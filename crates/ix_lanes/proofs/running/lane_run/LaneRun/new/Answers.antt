use Rattle.std.proofs.Common.{[], sym, subst, refl}
use Rattle.ix_lanes.{specs.{running.{Left.{is_done, names_done}, Runs.StandsFor}, asking.Asked.Names}, proofs.phased.PhaseRuns.stands_first}
use Rattle.ix_asking.specs.Asking.{Asking}
use Rattle.ix_lanes.proofs.running.lane_run.LaneRun.new.Goals as goal

pub returns-clause-stands : goal.returns-clause-stands
returns-clause-stands c =
    subst (λ (p : Asking Names). StandsFor (record { script = c.args.script.now; lane = c.in_ok-calls.calls.seat; done = 0; between = is_done p; names = names_done p }) [])
    (sym c.in_ok-calls.ensures.asks) (stands_first c.args.script.now c.in_ok-calls.calls.seat _ refl)

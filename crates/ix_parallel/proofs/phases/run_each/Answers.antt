use Rattle.std.proofs.Common.{◌≡◌, ◌+◌, suc, length, sym, ap, ◌∙◌, subst, arith}
use Rattle.ix_lanes.specs.running.Phases.{lines_before}
use Rattle.ix_script.specs.scripts.Schedule.{phases}
use Rattle.ix_parallel.{specs.Between.Between, proofs.together.OnePhase.{goes_on, stops_for_all}}
use Rattle.ix_parallel.proofs.phases.run_each.Goals as goal

pub run_one-stop-requires-clause-few : goal.run_one-stop-requires-clause-few
run_one-stop-requires-clause-few g c =
    let was = c.requires.at.1.count in
    let is = (c.loop-phase.invariant.at c.requires.at.0 c.requires.at.1).count in
    omega (arith, was, is, c.requires.few)

pub run_one-stop-requires-clause-at : goal.run_one-stop-requires-clause-at
run_one-stop-requires-clause-at g c κs within = (c.requires.at.0, c.loop-phase.invariant.at c.requires.at.0 c.requires.at.1)

pub returns-then-is_some : goal.returns-then-is_some
returns-then-is_some g c = λ kernel at. stops_for_all c.args.script.now kernel (suc c.loop-phase.phase) (phases c.args.script.now) c.run_one-stop.new.lanes c.run_one-stop.result
    (sym c.is_some.ensures ∙ c.if-is_some.true) (c.run_one-stop.ensures kernel (c.loop-phase.invariant.at kernel at))

pub loop-phase-preserved : goal.loop-phase-preserved
loop-phase-preserved g c =
    let next : suc c.loop-phase.phase ≡ c.loop-phase.phase + 1 = omega arith in
    record {
      at = λ kernel at.
          subst (λ k. Between c.args.script.now kernel k c.run_one-stop.new.lanes) next
          (goes_on c.args.script.now kernel (suc c.loop-phase.phase) c.run_one-stop.new.lanes c.run_one-stop.result (sym c.is_some.ensures ∙ c.if-is_some.false)
          (c.run_one-stop.ensures kernel (c.loop-phase.invariant.at kernel at)));
      end = c.phase_end-end.ensures ∙ ap (λ k. length (lines_before k c.args.script.now)) next;
    }

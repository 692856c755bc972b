use Rattle.ix_parallel.proofs.together.{Meeting.kernel_stays, OnePhase.{kernel_after, kernel_before, lanes_ready, runs_on}}
use Rattle.ix_parallel.proofs.phases.run_one.Goals as goal

pub learn_of_first-requires-clause-kernel : goal.learn_of_first-requires-clause-kernel
learn_of_first-requires-clause-kernel g c = kernel_before c.args.script.now c.requires.at.0 c.args.phase c.args.lanes.now c.requires.at.1

pub run_phase-stop-requires-after_bounds : goal.run_phase-stop-requires-after_bounds
run_phase-stop-requires-after_bounds g c κs within = lanes_ready c.args.script.now c.requires.at.0 c.args.phase c.args.end c.args.lanes.now c.learn_of_first.new.lanes c.requires.at.1
    c.learn_of_first.ensures.learn c.requires.phase c.requires.end

pub first_learns-requires-clause-kernel : goal.first_learns-requires-clause-kernel
first_learns-requires-clause-kernel g c = kernel_after c.learn_of_first.new.lanes c.run_phase-stop.new.lanes c.run_phase-stop.result
    (kernel_stays c.args.lanes.now c.learn_of_first.new.lanes c.learn_of_first.ensures.learn
    (kernel_before c.args.script.now c.requires.at.0 c.args.phase c.args.lanes.now c.requires.at.1)) c.run_phase-stop.ensures

pub returns : goal.returns
returns g c = λ kernel at. runs_on c.args.script.now kernel c.args.phase c.args.lanes.now c.learn_of_first.new.lanes c.run_phase-stop.new.lanes c.first_learns.new.lanes
    c.parts_of-parts.result c.run_phase-stop.result at c.parts_of-parts.ensures c.learn_of_first.ensures c.run_phase-stop.ensures c.first_learns.ensures

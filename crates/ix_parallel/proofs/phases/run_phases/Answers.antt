use Rattle.std.proofs.Common.{arith}
use Rattle.ix_script.specs.scripts.Schedule.{phases}
use Rattle.ix_parallel.proofs.together.AllMet.{all_met_either, all_parts, at_first, kernel_of}
use Rattle.ix_parallel.proofs.phases.run_phases.Goals as goal

pub run_each-stop-requires-clause-at : goal.run_each-stop-requires-clause-at
run_each-stop-requires-clause-at g c κs within = (c.requires.at.0, at_first c.args.script.now c.requires.at.0 0 c.args.lanes.now c.requires.at.1)

pub learn_of_first-requires-clause-kernel : goal.learn_of_first-requires-clause-kernel
learn_of_first-requires-clause-kernel g c = kernel_of c.args.script.now c.requires.at.0 (phases c.args.script.now) c.run_each-stop.new.lanes c.run_each-stop.result
    (c.run_each-stop.ensures c.requires.at.0 (at_first c.args.script.now c.requires.at.0 0 c.args.lanes.now c.requires.at.1))

pub returns : goal.returns
returns g c = λ kernel at. all_met_either c.args.script.now kernel (phases c.args.script.now) c.run_each-stop.new.lanes c.learn_of_first.new.lanes _ c.run_each-stop.result
    (c.run_each-stop.ensures kernel (at_first c.args.script.now kernel 0 c.args.lanes.now at)) (λ n low. all_parts n (omega (arith, low, c.run_each-stop.auto.lanes, c.requires.few)))
    c.learn_of_first.ensures

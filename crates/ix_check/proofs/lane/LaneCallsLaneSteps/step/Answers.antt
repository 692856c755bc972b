use Rattle.ix_check.proofs.OneMade.{makes_call}
use Rattle.ix_check.proofs.lane.LaneCallsLaneSteps.step.Goals as goal

pub returns-in-Ok-clause-made : goal.returns-in-Ok-clause-made
returns-in-Ok-clause-made g c =
    let one = c.in-Ok.ensures in
    makes_call g.S.Sys.seat g.S.Sys.made g.S.Sys.stops g.S.Sys.stopped c.args.self.now c.make_next.new.asks c.args.sys.now c.make_next.new.sys _ _
    c.requires.call c.requires.seat one.1.asked one.1.made one.2 one.4 one.5

use Rattle.ix_parallel.proofs.together.MetAt.{may_behind, met_behind}
use Rattle.ix_parallel.proofs.meeting.meet_behind.Goals as goal

pub meet-requires : goal.meet-requires
meet-requires g c = may_behind g.T.Learner.may_meet c.args.front.now c.args.back.now c.args.one c.index-front-one.result c.index-back-0.result c.requires.within.0 c.requires.within.1 c.requires.may

pub returns : goal.returns
returns g c = met_behind g.T.Learner.learns c.args.front.now c.args.back.now c.args.one c.index-front-one.result c.index-back-0.result c.meet.new.self
    c.meet.new.other c.requires.within.0 c.requires.within.1
    c.meet.ensures.learns c.meet.ensures.other

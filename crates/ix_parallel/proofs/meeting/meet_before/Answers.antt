use Rattle.ix_parallel.proofs.together.MetAt.{may_before, met_before}
use Rattle.ix_parallel.proofs.meeting.meet_before.Goals as goal

pub meet-requires : goal.meet-requires
meet-requires g c = may_before g.T.Learner.may_meet c.args.front.now c.args.back.now c.args.other c.index-front-other.result c.index-back-0.result
    c.requires.within.0 c.requires.within.1 c.requires.may

pub returns : goal.returns
returns g c = met_before g.T.Learner.learns c.args.front.now c.args.back.now c.args.other c.index-front-other.result c.index-back-0.result c.meet.new.other
    c.meet.new.self c.requires.within.0 c.requires.within.1
    c.meet.ensures.learns c.meet.ensures.other

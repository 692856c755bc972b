use Rattle.std.proofs.Common.{◌++◌, length, sym, subst}
use Rattle.ix_parallel.specs.Meeting.{MayMeet, Meets}
use Rattle.ix_parallel.proofs.meeting.meet_later.Goals as goal

pub meet_behind-requires-clause-may : goal.meet_behind-requires-clause-may
meet_behind-requires-clause-may g c =
    let parts = c.split_at_mut-front.ensures in
    let front = c.split_at_mut-front.result.0.now in
    let both = front ++ c.split_at_mut-front.result.1.now in
    subst (λ n. MayMeet g.T.Learner.may_meet c.args.one n both) (sym parts.front_len) (subst (λ l. MayMeet g.T.Learner.may_meet c.args.one c.args.other l) parts.value c.requires.may)

pub returns : goal.returns
returns g c =
    let parts = c.split_at_mut-front.ensures in
    let after = c.meet_behind.new.front ++ c.meet_behind.new.back in
    let front = c.split_at_mut-front.result.0.now in
    subst (λ n. Meets g.T.Learner.learns c.args.one n c.args.all.now after) parts.front_len
    (subst (λ l. Meets g.T.Learner.learns c.args.one (length front) l after) (sym parts.value) c.meet_behind.ensures)

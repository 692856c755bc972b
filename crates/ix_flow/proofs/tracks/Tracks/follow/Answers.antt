use Rattle.std.proofs.Common.{sym, subst, arith}
use Rattle.ix_model.specs.history.{Calls.op_of, Made.entry}
use Rattle.ix_flow.{specs.Following.FollowsInto, proofs.Writes.{follows_into, quiet_call, quiet_follows}}
use Rattle.ix_flow.proofs.tracks.Tracks.follow.Goals as goal

pub returns-in-Pex-clause-follows : goal.returns-in-Pex-clause-follows
returns-in-Pex-clause-follows c = λ seat line.
    subst (λ x. FollowsInto c.args.self.now c.claim.new.self c.args.core.now c.args.reply.now (entry seat line c.args.pid (op_of x)) c.args.out.now.items c.args.out.now.items)
    (sym c.in-Pex.is)
    (follows_into _ _ _ _ _ _ (c.claim.ensures seat line _))

pub returns-in_ok-relabel-in-SetLabel-clause-follows : goal.returns-in_ok-relabel-in-SetLabel-clause-follows
returns-in_ok-relabel-in-SetLabel-clause-follows c = λ seat line.
    subst (λ x. FollowsInto c.args.self.now c.relabel.new.self c.args.core.now c.args.reply.now (entry seat line c.args.pid (op_of x)) c.args.out.now.items c.args.out.now.items)
    (sym c.in-SetLabel.is)
    (follows_into _ _ _ _ _ _ (c.in_ok-relabel-in-SetLabel.ensures seat line _ _ _ _))

pub returns-in_default-clause-follows : goal.returns-in_default-clause-follows
returns-in_default-clause-follows c = λ seat line.
    let quiet = quiet_call _ c.in_default.not-CreateAt c.in_default.not-ReadFd c.in_default.not-WriteFd
    c.in_default.not-CutFd c.in_default.not-MakePipe c.in_default.not-MakeDir c.in_default.not-SetLabel c.in_default.not-Pex in
    follows_into _ _ _ _ _ _
    (quiet_follows _ _ _ _ _ _ _ quiet (omega (arith, c.len-place.ensures.len, c.len-place.ensures.few)))

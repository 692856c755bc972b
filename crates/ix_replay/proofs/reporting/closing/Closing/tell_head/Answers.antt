use Rattle.ix_replay.proofs.piecewise.Pieces.{head_told}
use Rattle.ix_replay.proofs.reporting.closing.Closing.tell_head.Goals as goal

pub returns : goal.returns
returns c = head_told c.args.self.now c.args.out.now.items c.push_heading.new.out.items c.requires c.in_ok-push_heading.ensures

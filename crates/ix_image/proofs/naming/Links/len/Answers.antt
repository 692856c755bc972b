use Rattle.std.proofs.Common.{sym}
use Rattle.ix_image.proofs.Walking.{count_read}
use Rattle.ix_image.proofs.naming.Links.len.Goals as goal

pub returns : goal.returns
returns c = sym (count_read _ _ c.args.self.now.readable)

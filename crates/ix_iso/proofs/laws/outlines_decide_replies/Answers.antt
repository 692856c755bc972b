use Rattle.ix_iso.proofs.InLength.{one_outline}
use Rattle.ix_iso.proofs.laws.outlines_decide_replies.Goals as goal

pub returns : goal.returns
returns c = record { one = one_outline }

use Rattle.ix_host.proofs.made_text.Whole.{readable}
use Rattle.ix_host.proofs.laws.readable.Goals as goal

pub returns : goal.returns
returns c = readable c.spelled_or_faulty.ensures c.spelled_or_faulty-2.ensures c.spelled_or_faulty-3.ensures

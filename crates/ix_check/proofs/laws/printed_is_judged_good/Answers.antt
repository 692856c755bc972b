use Rattle.ix_check.proofs.Judged.{printed_is_good}
use Rattle.ix_check.proofs.laws.printed_is_judged_good.Goals as goal

pub returns : goal.returns
returns c = record { good = printed_is_good }

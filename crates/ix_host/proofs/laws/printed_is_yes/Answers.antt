use Rattle.ix_host.proofs.Behind.{printed_is_yes}
use Rattle.ix_host.proofs.laws.printed_is_yes.Goals as goal

pub returns : goal.returns
returns c = record { yes = printed_is_yes c.one_history.ensures.names c.printed_is_judged_good.ensures.good }

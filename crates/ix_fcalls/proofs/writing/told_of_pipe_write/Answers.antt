use Rattle.std.proofs.Common.{nat_lt}
use Rattle.ix_model.specs.rows.Telling.{nothing_told}
use Rattle.ix_fcalls.proofs.Lengths.{past_left}
use Rattle.ix_fcalls.proofs.writing.told_of_pipe_write.Goals as goal

pub returns : goal.returns
returns c = λ i. record nothing_told { too_big = nat_lt 4096 c.args.n; full = past_left c.args.there c.args.n c.requires i }

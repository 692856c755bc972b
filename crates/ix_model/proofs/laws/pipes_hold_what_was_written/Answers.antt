use Rattle.ix_model.proofs.paths_and_pipes.Written.{holds_written}
use Rattle.ix_model.proofs.laws.pipes_hold_what_was_written.Goals as goal

pub returns : goal.returns
returns c = record { written = holds_written }

use Rattle.ix_flow.proofs.ReadMarks.{marked_run}
use Rattle.ix_flow.proofs.laws.the_marked_run_is_the_run.Goals as goal

pub returns : goal.returns
returns c = record { law = marked_run }

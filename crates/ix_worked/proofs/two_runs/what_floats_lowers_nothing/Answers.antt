use Rattle.ix_worked.proofs.runs.Falling.{nothing_falls, nothing_is_crossed}
use Rattle.ix_worked.proofs.two_runs.what_floats_lowers_nothing.Goals as goal

pub returns-clause-lowers : goal.returns-clause-lowers
returns-clause-lowers c = nothing_falls

pub returns-clause-crosses : goal.returns-clause-crosses
returns-clause-crosses c = nothing_is_crossed

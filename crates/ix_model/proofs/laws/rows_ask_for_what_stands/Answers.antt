use Rattle.ix_model.proofs.refused.Lacking.{nothing_else_is_missing}
use Rattle.ix_model.proofs.laws.rows_ask_for_what_stands.Goals as goal

pub returns : goal.returns
returns c = record { stands = nothing_else_is_missing }

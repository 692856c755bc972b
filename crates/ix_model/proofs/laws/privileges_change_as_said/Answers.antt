use Rattle.ix_model.proofs.told.Moving.{privileges_move}
use Rattle.ix_model.proofs.laws.privileges_change_as_said.Goals as goal

pub returns : goal.returns
returns c = record { privileges = privileges_move }

use Rattle.ix_model.proofs.texts.Reading.{is_text_of_none}
use Rattle.ix_model.proofs.path.Path.new.Goals as goal

pub invariant_of-result : goal.invariant_of-result
invariant_of-result c = record { named = is_text_of_none }

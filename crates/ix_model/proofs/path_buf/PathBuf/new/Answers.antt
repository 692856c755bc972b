use Rattle.std.proofs.Common.{refl, arith}
use Rattle.ix_model.proofs.texts.Reading.{is_text_of_none}
use Rattle.ix_model.proofs.path_buf.PathBuf.new.Goals as goal

pub invariant_of-result : goal.invariant_of-result
invariant_of-result c = record { fits = omega arith; text = is_text_of_none; counted = refl }

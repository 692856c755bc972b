use Rattle.ix_text.specs.Names.{name_of}
use Rattle.ix_script.proofs.lines.Readings.{where_some}
use Rattle.ix_script.proofs.values.NameWord.of.Goals as goal

pub invariant_of-result : goal.invariant_of-result
unfolding name_of
invariant_of-result c = where_some _ _ c.requires

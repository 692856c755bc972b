use Rattle.std.proofs.Common.{refl}
use Rattle.ix_model.specs.world.Naming.{is_name}
use Rattle.ix_script.proofs.reader.Verdicts.{some_of}
use Rattle.ix_script.proofs.header.default_fs.Goals as goal

pub unwrap-requires : goal.unwrap-requires
unfolding is_name
unwrap-requires c = some_of _ _ _ c.read.ensures (λ none. none refl)

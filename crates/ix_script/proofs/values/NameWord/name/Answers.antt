use Rattle.ix_text.proofs.ScriptNames.{script_name_is_name}
use Rattle.ix_script.proofs.reader.Verdicts.{some_of}
use Rattle.ix_script.proofs.values.NameWord.name.Goals as goal

pub unwrap-requires : goal.unwrap-requires
unwrap-requires c = some_of _ _ _ c.read.ensures (λ no. no (script_name_is_name _ c.self.invariant))

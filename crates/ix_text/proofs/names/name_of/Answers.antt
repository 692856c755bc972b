use Rattle.std.proofs.Common.{sym, ◌∙◌}
use Rattle.ix_text.proofs.ScriptNames.{script_name_is_name}
use Rattle.ix_text.proofs.names.name_of.Goals as goal

pub returns-in-None : goal.returns-in-None
returns-in-None c = absurd (c.in-None.ensures (script_name_is_name c.args.word.now (sym c.is_script_name.ensures ∙ c.if-not-is_script_name.false)))

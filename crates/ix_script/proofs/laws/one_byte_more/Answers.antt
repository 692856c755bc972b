use Rattle.ix_script.proofs.back.ScriptBack.{one_byte_more}
use Rattle.ix_script.proofs.laws.one_byte_more.Goals as goal

pub returns : goal.returns
returns c = one_byte_more

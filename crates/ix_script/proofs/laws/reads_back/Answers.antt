use Rattle.ix_script.proofs.back.ScriptBack.{reads_back}
use Rattle.ix_script.proofs.laws.reads_back.Goals as goal

pub returns : goal.returns
returns c = reads_back

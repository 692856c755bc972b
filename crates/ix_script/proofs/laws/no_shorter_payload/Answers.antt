use Rattle.ix_script.proofs.back.Shorter.{no_shorter}
use Rattle.ix_script.proofs.laws.no_shorter_payload.Goals as goal

pub returns : goal.returns
returns c = no_shorter
